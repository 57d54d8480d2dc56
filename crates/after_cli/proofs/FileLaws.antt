-- Files that tell what they are give one answer.
use Rattle.std.proofs.Common.{◌≡◌, ℕ, List, Option, Some, None, Result, Err, refl, sym, ap, ◌∙◌, inl, inr}
use Rattle.std.specs.Prelude.{IsSome}
use Rattle.after_edge.specs.Fault.{Rose}
use Rattle.after_edge.specs.Files.{Contents}
use Rattle.run_inputs.specs.declared.fault.InputFault.{InputFault}
use Rattle.run_inputs.specs.declared.fault.InputFault.TheVariants as fault
use Rattle.run_inputs.specs.Faults.{GivesFault, HasCause}
use Rattle.run_inputs.specs.Files.{Names, AreFound, IsDiskFound, Comes}
use Rattle.run_inputs.specs.Given.{Found, Refusal, Absent, ImageTooLong, ScriptTooLong, DiskTooLong, BadImage, BadScript}
use Rattle.refusals.specs.Status.{input_status}
use Rattle.after_cli.specs.Exact.{disk_in, found_in, refused_status}

module _ (told : Contents) (names : Names) where
  one_disk : (disk found : Option (List ℕ)) → IsDiskFound (Some told) disk found → disk_in told disk ≡ found
  one_disk None found is = sym is
  one_disk (Some name) found is = is told refl

  one_found : (found : Found) → AreFound (Some told) names found → found_in told names ≡ found
  one_found found are = rw (are.image told refl, are.script told refl, one_disk names.disk found.disk are.disk) refl

  -- what a reader gives is what it gives of what stands there
  pub one_answer : {Y : Type 0} (read : Found → Result Y Refusal) (answer : Result Y Refusal) → Comes read (Some told) names answer → read (found_in told names) ≡ answer
  one_answer read answer comes = ap read (one_found comes.found comes.are) ∙ comes.gives

  -- a fault, where the count stays, is that of the definition, or no memory for files of which the image is there
  pub data Refuses {Y : Type 0} (read : Found → Result Y Refusal) (status : ℕ) : Type 0 where
    For : (refusal : Refusal) → read (found_in told names) ≡ Err refusal → status ≡ refused_status refusal → Refuses read status
    NoMemory : IsSome (told names.image) → status ≡ 9 → Refuses read status

  one_given : {Y : Type 0} (read : Found → Result Y Refusal) (e : InputFault) → GivesFault read (Some told) names e → Refuses read (input_status e)
  one_given read fault.Files (some, comes) = For Absent (one_answer read (Err Absent) comes) refl
  one_given read fault.ImageTooLong comes = For ImageTooLong (one_answer read (Err ImageTooLong) comes) refl
  one_given read fault.ScriptTooLong comes = For ScriptTooLong (one_answer read (Err ScriptTooLong) comes) refl
  one_given read fault.DiskTooLong comes = For DiskTooLong (one_answer read (Err DiskTooLong) comes) refl
  one_given read (fault.Image e) (k, is, comes) = For (BadImage k) (one_answer read (Err (BadImage k)) comes) refl
  one_given read (fault.Script e) (k, is, comes) = For (BadScript k) (one_answer read (Err (BadScript k)) comes) refl
  one_given read fault.NoMemory there = NoMemory (there told refl) refl

  pub one_fault : {Y : Type 0} (read : Found → Result Y Refusal) (before now : ℕ) (e : InputFault) → (Rose before now → ⊥) → HasCause read (Some told) names before now e → Refuses read (input_status e)
  one_fault read before now e stays (inl (is, rose)) = absurd (stays rose)
  one_fault read before now e stays (inr (still, gives)) = one_given read e gives
