-- What came before, where it is in a slice of one.
use Rattle.std.specs.Prelude.{List, [], get_or}
use Rattle.machine_log.specs.declared.past.Past.{Past}

abbrev pub only : List Past → Past
only pasts = get_or pasts 0 (record { first = []; changes = []; moments = [] })
