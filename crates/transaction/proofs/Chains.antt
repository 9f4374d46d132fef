-- What is told where all has passed, or the fault.
use Rattle.std.proofs.Common.{◌≡◌, Ok, Err, refl}
use Rattle.transaction.specs.Layers.{Passed, telling}

pub telling_ok : {X E : Type 0} (d m : X) (r : Passed E) → Ok d ≡ telling m r → (r ≡ Ok tt) × (d ≡ m)
telling_ok d m (Ok x) h = (refl, cc)
telling_ok d m (Err e) h = (cc, cc)

pub telling_err : {X E : Type 0} (e : E) (m : X) (r : Passed E) → Err e ≡ telling m r → r ≡ Err e
telling_err e m (Ok x) h = cc
telling_err e m (Err f) h = cc
