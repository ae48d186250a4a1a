-- Blocks that the next commit writes in part.
use Rattle.std.specs.Prelude.{ℕ, [], ◌∷◌, length, Option, None}
use Rattle.kept_blocks.specs.Blocks.{Blocks}
use Rattle.log_commits.specs.Tail.{TailValue}
use Rattle.log_store.specs.Needs.{commit_edges}

-- The two blocks that a commit of these blocks writes in part, if there are any.
abbrev pub put_edges : TailValue → Blocks → Option (ℕ × ℕ)
put_edges t [] = None
put_edges t (block ∷ blocks) = commit_edges t (length (block ∷ blocks))
