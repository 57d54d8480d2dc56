-- What a part refuses, the whole refuses.
use Rattle.std.proofs.Common.{◌≡◌, ℕ, Result, Err}
use Rattle.in_script.specs.declared.fault.Broken.{Broken}
use Rattle.in_script.specs.declared.fault.Broken.TheVariants as broken
use Rattle.format_model.specs.ScriptReading as model
use Rattle.in_script.specs.Reads.{fault_at, Refuses, RefusesAt}

pub refused_by : {X Y : Type 0} (e : Broken) (part : Result X model.Broken) (whole : Result Y model.Broken) → ((k : model.Broken) → part ≡ Err k → whole ≡ Err k) → Refuses e part → Refuses e whole
refused_by broken.BadLine part whole step refused = step model.BadLine refused
refused_by broken.BadNumber part whole step refused = step model.BadNumber refused
refused_by broken.Falling part whole step refused = step model.Falling refused
refused_by broken.TooMany part whole step refused = step model.TooMany refused
refused_by broken.NoMemory part whole step refused = tt

pub refused_at : {X Y : Type 0} (e : Broken) (line : ℕ) (part : Result X model.Broken) (whole : Result Y (ℕ × model.Broken)) → ((k : model.Broken) → part ≡ Err k → whole ≡ Err (line, k)) → Refuses e part → RefusesAt (fault_at e line) whole
refused_at broken.BadLine line part whole step refused = step model.BadLine refused
refused_at broken.BadNumber line part whole step refused = step model.BadNumber refused
refused_at broken.Falling line part whole step refused = step model.Falling refused
refused_at broken.TooMany line part whole step refused = step model.TooMany refused
refused_at broken.NoMemory line part whole step refused = tt
