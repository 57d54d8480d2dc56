-- What the definition of reading gives, a reader gives; and so the grammar's two laws.
use Rattle.std.proofs.Common.{◌≡◌, ℕ, List, Result, Ok, Err, IfOk, sym, subst}
use Rattle.std.specs.Global.{Vec}
use Rattle.in_script.specs.declared.fault.ScriptFault.{ScriptFault}
use Rattle.in_script.specs.Reads.{GivesFile}
use Rattle.machine_model.specs.Script.{Script}
use Rattle.format_model.specs.Script.{IsScript, printed}
use Rattle.format_model.specs.ScriptReading.{Broken, script_in}
use Rattle.format_model.proofs.ScriptParts.{AreBytes}
use Rattle.format_model.proofs.ScriptLines.{script_again, script_found}
use Rattle.format_model.proofs.ScriptPrinted.{printed_is}

pub found_of : (file : List ℕ) (r : Result Script ScriptFault) → AreBytes file → GivesFile (λ s. s) r (script_in file) → IfOk r (λ s. IsScript file s)
found_of file (Ok s) fits read = script_found file s fits read
found_of file (Err e) fits read = tt

pub only_of : (file : List ℕ) (r : Result Script ScriptFault) (s : Script) → GivesFile (λ x. x) r (script_in file) → IsScript file s → GivesFile (λ x. x) r (Ok s)
only_of file r s read is = subst (λ (x : Result Script (ℕ × Broken)). GivesFile (λ y. y) r x) (script_again file s is) read

-- the canonical text, once it is made, is a file of the script
pub again_of : {E : Type 0} (script : Script) (r : Result (Vec ℕ) E) → (file : List ℕ) × IsScript file script → IfOk r (λ t. t.items ≡ printed script) → IfOk r (λ t. IsScript t.items script)
again_of script (Ok t) given made = subst (λ (file : List ℕ). IsScript file script) (sym made) (printed_is given.0 script given.1)
again_of script (Err e) given made = tt
