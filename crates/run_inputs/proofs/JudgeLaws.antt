-- What is judged, and what the judge's faults say of the whole.
use Rattle.memory_map.specs.declared.TheConstants.{MOST_DISK_BYTES}
use Rattle.std.proofs.Common.{◌≡◌, ℕ, ◌≤◌, List, length, Option, Some, None, is_some, Result, Ok, Err, IfOk, IfErr, inl, inr, refl, ap, arith, ◌∙◌}
use Rattle.std.specs.Prelude.{IsSome}
use Rattle.after_edge.specs.Files.{Contents, IsThere}
use Rattle.elf_image.specs.declared.fault.ImageFault.{ImageFault}
use Rattle.elf_image.specs.declared.fault.ImageFault.TheVariants as image
use Rattle.elf_image.specs.Reads as elf
use Rattle.in_script.specs.declared.fault.ScriptFault.{ScriptFault}
use Rattle.in_script.specs.declared.fault.ScriptFault.TheVariants as script
use Rattle.in_script.specs.Reads as lines
use Rattle.format_model.specs.ImageFile as image_model
use Rattle.format_model.specs.ScriptReading as script_model
use Rattle.machine_model.specs.Image.{Image}
use Rattle.run_inputs.specs.declared.inputs.Inputs.{Inputs}
use Rattle.run_inputs.specs.declared.fault.InputFault.{InputFault}
use Rattle.run_inputs.specs.declared.fault.InputFault.TheVariants as fault
use Rattle.run_inputs.specs.Faults.{GivesFault, HasCause, of_image, of_script}
use Rattle.run_inputs.specs.Files.{Names, Comes}
use Rattle.run_inputs.specs.Given.{Bytes, Found, Given, Refusal, Absent, BadImage, BadScript, bytes_in, given_in, inputs_in}
use Rattle.run_inputs.specs.Read.{IsJudgedAs, given_by}
use Rattle.run_inputs.proofs.BytesLaws.{AreShort, image_there}

-- the image's fault is the judge's
image_bad : (ram_kib : ℕ) (bytes : Bytes) (k : image_model.Fault) → image_model.image_in ram_kib bytes.image ≡ Err k → given_in ram_kib bytes ≡ Err (BadImage k)
unfolding given_in
image_bad ram_kib bytes k is = rw is refl

pub image_judged : (ram_kib : ℕ) (bytes : Bytes) (e : ImageFault) → elf.Refuses e (image_model.image_in ram_kib bytes.image) → elf.IfNoMemory {X = Image} (Err e) (elf.IsBegun ram_kib bytes.image) → IsJudgedAs ram_kib bytes (Err (of_image e))
image_judged ram_kib bytes (image.Short need) is begun = (image_model.Short need, refl, image_bad ram_kib bytes _ is)
image_judged ram_kib bytes (image.NotThis field) is begun = (image_model.NotThis field, refl, image_bad ram_kib bytes _ is)
image_judged ram_kib bytes image.BadTable is begun = (image_model.BadTable, refl, image_bad ram_kib bytes _ is)
image_judged ram_kib bytes (image.SegmentShape index) is begun = (image_model.SegmentShape index, refl, image_bad ram_kib bytes _ is)
image_judged ram_kib bytes (image.SegmentOutside index) is begun = (image_model.SegmentOutside index, refl, image_bad ram_kib bytes _ is)
image_judged ram_kib bytes (image.Overlap first second) is begun = (image_model.Overlap first second, refl, image_bad ram_kib bytes _ is)
image_judged ram_kib bytes image.NoSegment is begun = (image_model.NoSegment, refl, image_bad ram_kib bytes _ is)
image_judged ram_kib bytes image.EntryOutside is begun = (image_model.EntryOutside, refl, image_bad ram_kib bytes _ is)
image_judged ram_kib bytes image.NoMemory is begun = inl begun

-- the script's fault is, after an image
script_bad : (ram_kib : ℕ) (bytes : Bytes) (i : Image) (k : ℕ × script_model.Broken) → image_model.image_in ram_kib bytes.image ≡ Ok i → script_model.script_in bytes.script ≡ Err k → given_in ram_kib bytes ≡ Err (BadScript k)
unfolding given_in
script_bad ram_kib bytes i k image_is is = rw (image_is, is) refl

pub script_judged : (ram_kib : ℕ) (bytes : Bytes) (i : Image) (e : ScriptFault) → image_model.image_in ram_kib bytes.image ≡ Ok i → lines.RefusesAt e (script_model.script_in bytes.script) → IsJudgedAs ram_kib bytes (Err (of_script e))
script_judged ram_kib bytes i (script.BadLine line) image_is is = ((line, script_model.BadLine), refl, script_bad ram_kib bytes i _ image_is is)
script_judged ram_kib bytes i (script.BadNumber line) image_is is = ((line, script_model.BadNumber), refl, script_bad ram_kib bytes i _ image_is is)
script_judged ram_kib bytes i (script.Falling line) image_is is = ((line, script_model.Falling), refl, script_bad ram_kib bytes i _ image_is is)
script_judged ram_kib bytes i (script.TooMany line) image_is is = ((line, script_model.TooMany), refl, script_bad ram_kib bytes i _ image_is is)
script_judged ram_kib bytes i script.NoMemory image_is is = inr (i, image_is)

module _ (ram_kib : ℕ) (content : Option Contents) (names : Names) where
  -- a file's fault is one of the whole
  comes_on : (r : Refusal) → Comes bytes_in content names (Err r) → Comes (inputs_in ram_kib) content names (Err r)
  unfolding inputs_in
  comes_on r comes = record { found = comes.found; are = comes.are; gives = rw comes.gives refl }

  gives_on : (told : InputFault) → GivesFault bytes_in content names told → GivesFault (inputs_in ram_kib) content names told
  gives_on fault.Files (told, comes) = (told, comes_on _ comes)
  gives_on fault.ImageTooLong comes = comes_on _ comes
  gives_on fault.ScriptTooLong comes = comes_on _ comes
  gives_on fault.DiskTooLong comes = comes_on _ comes
  gives_on (fault.Image e) (k, is, comes) = (k, is, comes_on _ comes)
  gives_on (fault.Script e) (k, is, comes) = (k, is, comes_on _ comes)
  gives_on fault.NoMemory there = there

  pub read_refused : (before now : ℕ) (told : InputFault) → HasCause bytes_in content names before now told → HasCause (inputs_in ram_kib) content names before now told
  read_refused before now told (inl failed) = inl failed
  read_refused before now told (inr (still, gives)) = inr (still, gives_on told gives)

  module _ (bytes : Bytes) (read : Comes bytes_in content names (Ok bytes)) where
    judged_on : (answer : Result Given Refusal) → given_in ram_kib bytes ≡ answer → Comes (inputs_in ram_kib) content names answer
    unfolding inputs_in
    judged_on answer is = record { found = read.found; are = read.are; gives = rw read.gives is }

    pub judged_ok : (r : Result Inputs InputFault) → IsJudgedAs ram_kib bytes r → IfOk r (λ inputs. Comes (inputs_in ram_kib) content names (Ok (given_by inputs)))
    judged_ok (Ok inputs) is = judged_on _ is
    judged_ok (Err e) is = tt

    judge_gives : (told : InputFault) → IsJudgedAs ram_kib bytes (Err told) → GivesFault (inputs_in ram_kib) content names told
    judge_gives fault.Files is = absurd is
    judge_gives fault.ImageTooLong is = absurd is
    judge_gives fault.ScriptTooLong is = absurd is
    judge_gives fault.DiskTooLong is = absurd is
    judge_gives (fault.Image e) (k, named, is) = (k, named, judged_on _ is)
    judge_gives (fault.Script e) (k, named, is) = (k, named, judged_on _ is)
    judge_gives fault.NoMemory is = image_there content names bytes read

    pub judged_err : (before now : ℕ) (r : Result Inputs InputFault) → now ≡ before → IsJudgedAs ram_kib bytes r → IfErr r (HasCause (inputs_in ram_kib) content names before now)
    judged_err before now (Ok inputs) still is = tt
    judged_err before now (Err told) still is = inr (still, judge_gives told is)

-- of files that give a run its inputs the image is there
given_some : (ram_kib : ℕ) (found : Found) (given : Given) → inputs_in ram_kib found ≡ Ok given → IsSome found.image
unfolding inputs_in bytes_in
given_some ram_kib found given is = image_case found.image refl
  where
    image_case : (image : Option (List ℕ)) → found.image ≡ image → IsSome image
    image_case None none = absurd (let e : ◌≡◌ {A = Result Given Refusal} (Err Absent) (Ok given) = rw none at is in cc)
    image_case (Some image) some = refl

pub given_there : (ram_kib : ℕ) (content : Option Contents) (names : Names) (given : Given) → Comes (inputs_in ram_kib) content names (Ok given) → IsThere content names.image
given_there ram_kib content names given comes files told = ap is_some (comes.are.image files told) ∙ given_some ram_kib comes.found given comes.gives

-- the disk is the one that was read
pub short_disk : (r : Result Inputs InputFault) (bytes : Bytes) → IfOk r (λ inputs. inputs.disk.items ≡ bytes.disk) → AreShort bytes → IfOk r (λ inputs. length inputs.disk.items ≤ MOST_DISK_BYTES)
short_disk (Ok inputs) bytes is short = omega (arith, ap length is, short.disk)
short_disk (Err e) bytes is short = tt
