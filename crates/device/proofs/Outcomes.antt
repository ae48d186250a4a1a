-- What clauses on a result give where it is known.
use Rattle.std.proofs.Common.{◌≡◌, ◌⊎◌, inl, inr, refl, false, Result, Ok, Err, OnOk, OnErr, IsOk, is_err}

-- where there is no error there is a success
pub ok_from : {T E : Type 0} (result : Result T E) → is_err result ≡ false → IsOk result
ok_from (Ok x) none = refl
ok_from (Err e) none = cc

-- and what is said of it holds
pub on_ok : {T E P : Type 0} (result : Result T E) → is_err result ≡ false → OnOk result P → P
on_ok (Ok x) none p = p
on_ok (Err e) none p = cc

pub either : {T E P Q : Type 0} (result : Result T E) → OnOk result P → OnErr result Q → P ⊎ Q
either (Ok x) p q = inl p
either (Err e) p q = inr q

pub ok_map : {T E P Q : Type 0} (result : Result T E) → (P → Q) → OnOk result P → OnOk result Q
ok_map (Ok x) f p = f p
ok_map (Err e) f p = tt

pub err_map : {T E P Q : Type 0} (result : Result T E) → (P → Q) → OnErr result P → OnErr result Q
err_map (Ok x) f p = tt
err_map (Err e) f p = f p
