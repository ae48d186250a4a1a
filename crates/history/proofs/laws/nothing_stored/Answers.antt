use Rattle.history.proofs.laws.nothing_stored.Goals as goal
use Rattle.history.proofs.FileParts.{files_unchanged, found_unchanged}

pub returns-clause-files : goal.returns-clause-files
returns-clause-files g files = files_unchanged files

pub returns-clause-found : goal.returns-clause-found
returns-clause-found g files = found_unchanged files
