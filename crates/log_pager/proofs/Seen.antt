-- What contracts see of the fields.
use Rattle.log_pager.specs.Pager.{LogPagerValue}
use Rattle.log_pager.specs.declared.pager.LogPager.TheInside.{Inside}

abbrev pub pager_value_of : {D A : Type 0} → Inside D A → LogPagerValue D
pager_value_of p = record { store = p.store; staged = p.staged; device = p.device }
