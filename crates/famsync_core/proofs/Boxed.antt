-- The box that a handle stands for, and its words: the rows of the types that its walk names.
use mir.Syntax.{impl, tnil, tcons, dnil}
use mir.Raw.{raw as bare}
use mir.Syntax.{Dict}
use denote.Exit.{no}
use denote.Param.{layout, arg}
use denote.Param.Laws.{arg_laws}
use denote.RattleType.{RattleType}
use Rattle.std.proofs.Common.{[], ◌∷◌, refl}
use Rattle.std.proofs.alloc.Global.TheLaws as global_laws
use Rattle.std.specs.contracts.alloc.Global as global
use Rattle.std.specs.contracts.impls.GlobalAllocator.TheImpl.{ghosts, dict}
use Rattle.std_alloc.proofs.BoxSteps.Form.{Bx, B}
use Rattle.famsync_core.proofs.state.State.TheLaws as state_laws
use Rattle.famsync_core.specs.contracts.handle.Handle as handle
use Rattle.famsync_core.specs.contracts.state.State as state

abbrev pub HandleRow : RattleType
HandleRow = handle.the_row

-- The state and its allocator, as a call passes them for type parameters.
abbrev pub StateArg : RattleType
StateArg = arg (bare (layout state.the_row)) no state.the_row

abbrev pub GlobalArg : RattleType
GlobalArg = arg (bare (layout global.the_row)) no global.the_row

-- An allocator that takes no bytes is dropped by doing nothing.
abbrev pub no_drop : Dict
no_drop = impl ("famsync_core::Destruct++none::drop" ∷ []) (tcons (layout GlobalArg) tnil) dnil

abbrev pub state_box : Bx
state_box = record {
  row = StateArg;
  laws = arg_laws (bare (layout state.the_row)) no state.the_row state_laws.the_row_laws refl;
  al = record {
    row = GlobalArg;
    laws = arg_laws (bare (layout global.the_row)) no global.the_row global_laws.the_row_laws refl;
    g = ghosts;
    d = dict;
    drops = no_drop;
  };
}

abbrev pub BoxRow : RattleType
BoxRow = B state_box
