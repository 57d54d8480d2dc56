-- What the reads of a run's files say together.
use Rattle.memory_map.specs.declared.TheConstants.{MOST_DISK_BYTES}
use Rattle.std.proofs.Common.{◌≡◌, ℕ, ◌<◌, ◌≤◌, inl, inr, List, length, Option, Some, None, Result, Ok, Err, refl, sym, ap, subst, ◌∙◌}
use Rattle.std.specs.Prelude.{IsSome, is_some}
use Rattle.std.proofs.lemmas.Bool.{cases_lt, lt-ltb, le-ltb}
use Rattle.format_model.specs.Then.{◌>>=◌}
use Rattle.after_edge.specs.Fault.{Rose}
use Rattle.after_edge.specs.Files.{Contents, IsThere}
use Rattle.run_inputs.specs.declared.fault.InputFault.{InputFault}
use Rattle.run_inputs.specs.declared.fault.InputFault.TheVariants as fault
use Rattle.run_inputs.specs.Faults.{GivesFault, HasCause}
use Rattle.run_inputs.specs.Files.{Names, IsFound, IsDiskFound, Comes}
use Rattle.run_inputs.specs.Given.{Bytes, Found, Refusal, Absent, ImageTooLong, ScriptTooLong, DiskTooLong, image_max, script_max, file_in, bytes_in}
use Rattle.run_inputs.specs.Read.{IsLong, GivesNoBytes, IsFileRefused, IsDiskRefused}
use Rattle.run_inputs.proofs.FoundLaws.{some_found, some_disk}

-- a file that is not too long, and one that is
whole : (max : ℕ) (too_long : Refusal) (bytes : List ℕ) → length bytes ≤ max → file_in max too_long (Some bytes) ≡ Ok bytes
whole max too_long bytes few = rw (le-ltb max (length bytes) few) refl

long : (max : ℕ) (too_long : Refusal) (bytes : List ℕ) → max < length bytes → file_in max too_long (Some bytes) ≡ Err too_long
long max too_long bytes many = rw (lt-ltb max (length bytes) many) refl

-- a file that was read, as far as the files tell
pub record IsRead (content : Option Contents) (name : List ℕ) (max : ℕ) (bytes : List ℕ) : Type 0 where
  pub found : IsFound content name (Some bytes)
  pub within : length bytes ≤ max

-- it is there
was_there : (content : Option Contents) (name bytes : List ℕ) → IsFound content name (Some bytes) → IsThere content name
was_there content name bytes found files told = ap is_some (found files told)

-- a fault of one read, after others that left the count alone, is one of the whole
refused_by : (content : Option Contents) (names : Names) (name : List ℕ) (max : ℕ) (too_long : InputFault) (before between now : ℕ) (told : InputFault) → between ≡ before
    → (GivesNoBytes content name max too_long told → GivesFault bytes_in content names told) → IsFileRefused content name max too_long between now told → HasCause bytes_in content names before now told
refused_by content names name max too_long before between now told still gives (inl (is, rose)) = inl (is, subst (λ (count : ℕ). Rose count now) still rose)
refused_by content names name max too_long before between now told still gives (inr (same, refused)) = inr (same ∙ still, gives refused)

module _ (content : Option Contents) (names : Names) where
  -- the image's fault
  image_absent : IsSome content × IsFound content names.image None → GivesFault bytes_in content names fault.Files
  unfolding bytes_in
  image_absent (told, none) =
      let script = some_found content names.script in
      let disk = some_disk content names.disk in
      (told, record { found = record { image = None; script = script.0; disk = disk.0 }; are = record { image = none; script = script.1; disk = disk.1 }; gives = refl })

  image_long : IsLong content names.image image_max → Comes bytes_in content names (Err ImageTooLong)
  unfolding bytes_in
  image_long longer =
      let script = some_found content names.script in
      let disk = some_disk content names.disk in
      record {
        found = record { image = Some longer.bytes; script = script.0; disk = disk.0 };
        are = record { image = longer.found; script = script.1; disk = disk.1 };
        gives = rw (long image_max ImageTooLong longer.bytes longer.longer) refl;
      }

  image_gives : (told : InputFault) → GivesNoBytes content names.image image_max fault.ImageTooLong told → GivesFault bytes_in content names told
  image_gives told (inl (is, tells, none)) = subst (GivesFault bytes_in content names) (sym is) (image_absent (tells, none))
  image_gives told (inr (inl (is, longer))) = subst (GivesFault bytes_in content names) (sym is) (image_long longer)
  image_gives told (inr (inr (is, there))) = subst (GivesFault bytes_in content names) (sym is) there

  pub image_refused : (before now : ℕ) (told : InputFault) → IsFileRefused content names.image image_max fault.ImageTooLong before now told → HasCause bytes_in content names before now told
  image_refused before now told = refused_by content names names.image image_max fault.ImageTooLong before before now told refl (image_gives told)

  module _ (image : List ℕ) (image_read : IsRead content names.image image_max image) where
    -- the script's fault, after the image was read
    script_absent : IsSome content × IsFound content names.script None → GivesFault bytes_in content names fault.Files
    unfolding bytes_in
    script_absent (told, none) =
        let disk = some_disk content names.disk in (
          told,
          record {
            found = record { image = Some image; script = None; disk = disk.0 };
            are = record { image = image_read.found; script = none; disk = disk.1 };
            gives = rw (whole image_max ImageTooLong image image_read.within) refl;
          },
        )

    script_long : IsLong content names.script script_max → Comes bytes_in content names (Err ScriptTooLong)
    unfolding bytes_in
    script_long longer =
        let disk = some_disk content names.disk in
        record {
          found = record { image = Some image; script = Some longer.bytes; disk = disk.0 };
          are = record { image = image_read.found; script = longer.found; disk = disk.1 };
          gives = rw (whole image_max ImageTooLong image image_read.within, long script_max ScriptTooLong longer.bytes longer.longer) refl;
        }

    script_gives : (told : InputFault) → GivesNoBytes content names.script script_max fault.ScriptTooLong told → GivesFault bytes_in content names told
    script_gives told (inl (is, tells, none)) = subst (GivesFault bytes_in content names) (sym is) (script_absent (tells, none))
    script_gives told (inr (inl (is, longer))) = subst (GivesFault bytes_in content names) (sym is) (script_long longer)
    script_gives told (inr (inr (is, there))) = subst (GivesFault bytes_in content names) (sym is) (was_there content names.image image image_read.found)

    pub script_refused : (before between now : ℕ) (told : InputFault) → between ≡ before → IsFileRefused content names.script script_max fault.ScriptTooLong between now told → HasCause bytes_in content names before now told
    script_refused before between now told still = refused_by content names names.script script_max fault.ScriptTooLong before between now told still (script_gives told)

    module _ (script : List ℕ) (script_read : IsRead content names.script script_max script) where
      -- the disk's fault, after both were read
      disk_absent : (name : List ℕ) → names.disk ≡ Some name → IsSome content × IsFound content name None → GivesFault bytes_in content names fault.Files
      unfolding bytes_in
      disk_absent name is (told, none) = (
        told,
        record {
          found = record { image = Some image; script = Some script; disk = None };
          are = record { image = image_read.found; script = script_read.found; disk = subst (λ (n : Option (List ℕ)). IsDiskFound content n None) (sym is) none };
          gives = rw (whole image_max ImageTooLong image image_read.within, whole script_max ScriptTooLong script script_read.within) refl;
        },
      )

      disk_long : (name : List ℕ) → names.disk ≡ Some name → IsLong content name MOST_DISK_BYTES → Comes bytes_in content names (Err DiskTooLong)
      unfolding bytes_in
      disk_long name is longer = record {
        found = record { image = Some image; script = Some script; disk = Some longer.bytes };
        are = record { image = image_read.found; script = script_read.found; disk = subst (λ (n : Option (List ℕ)). IsDiskFound content n (Some longer.bytes)) (sym is) longer.found };
        gives = rw (whole image_max ImageTooLong image image_read.within, whole script_max ScriptTooLong script script_read.within, long MOST_DISK_BYTES DiskTooLong longer.bytes longer.longer) refl;
      }

      disk_gives : (name : List ℕ) (told : InputFault) → names.disk ≡ Some name → GivesNoBytes content name MOST_DISK_BYTES fault.DiskTooLong told → GivesFault bytes_in content names told
      disk_gives name told is (inl (same, tells, none)) = subst (GivesFault bytes_in content names) (sym same) (disk_absent name is (tells, none))
      disk_gives name told is (inr (inl (same, longer))) = subst (GivesFault bytes_in content names) (sym same) (disk_long name is longer)
      disk_gives name told is (inr (inr (same, there))) = subst (GivesFault bytes_in content names) (sym same) (was_there content names.image image image_read.found)

      pub disk_refused : (disk : Option (List ℕ)) (before between now : ℕ) (told : InputFault) → names.disk ≡ disk → between ≡ before → IsDiskRefused content disk between now told → HasCause bytes_in content names before now told
      disk_refused None before between now told is still refused = absurd refused
      disk_refused (Some name) before between now told is still refused = refused_by content names name MOST_DISK_BYTES fault.DiskTooLong before between now told still (disk_gives name told is) refused

      -- all were read
      pub bytes_come : (disk : List ℕ) → IsDiskFound content names.disk (Some disk) → length disk ≤ MOST_DISK_BYTES → Comes bytes_in content names (Ok (record { image = image; script = script; disk = disk }))
      unfolding bytes_in
      bytes_come disk found few = record {
        found = record { image = Some image; script = Some script; disk = Some disk };
        are = record { image = image_read.found; script = script_read.found; disk = found };
        gives = rw (whole image_max ImageTooLong image image_read.within, whole script_max ScriptTooLong script script_read.within, whole MOST_DISK_BYTES DiskTooLong disk few) refl;
      }

-- of files that were read the image is there
image_some : (found : Found) (bytes : Bytes) → bytes_in found ≡ Ok bytes → IsSome found.image
unfolding bytes_in
image_some found bytes is = image_case found.image refl
  where
    image_case : (image : Option (List ℕ)) → found.image ≡ image → IsSome image
    image_case None none = absurd (let e : ◌≡◌ {A = Result Bytes Refusal} (Err Absent) (Ok bytes) = rw none at is in cc)
    image_case (Some image) some = refl

pub image_there : (content : Option Contents) (names : Names) (bytes : Bytes) → Comes bytes_in content names (Ok bytes) → IsThere content names.image
image_there content names bytes comes files told = ap is_some (comes.are.image files told) ∙ image_some comes.found bytes comes.gives

-- files that were read are not too long
module _ {Y : Type 0} (max : ℕ) (too_long : Refusal) (f : List ℕ → Result Y Refusal) (y : Y) where
  read_short : (found : Option (List ℕ)) → (file_in max too_long found >>= f) ≡ Ok y → (bytes : List ℕ) × (length bytes ≤ max) × (f bytes ≡ Ok y)
  read_short None is = absurd (cc)
  read_short (Some bytes) is =
      let split = cases_lt max (length bytes) in
      elim split [
        | inl more ↦ (let e : ◌≡◌ {A = Result Y Refusal} (Err too_long) (Ok y) = rw (lt-ltb max (length bytes) more) at is in absurd (cc))
        | inr few ↦ (bytes, few, rw (le-ltb max (length bytes) few) at is)
      ]

pub record AreShort (bytes : Bytes) : Type 0 where
  pub image : length bytes.image ≤ image_max
  pub script : length bytes.script ≤ script_max
  pub disk : length bytes.disk ≤ MOST_DISK_BYTES

pub are_short : (content : Option Contents) (names : Names) (bytes : Bytes) → Comes bytes_in content names (Ok bytes) → AreShort bytes
unfolding bytes_in
are_short content names bytes comes =
    let found = comes.found in
    let image = read_short image_max ImageTooLong _ bytes found.image comes.gives in
    let script = read_short script_max ScriptTooLong _ bytes found.script image.2 in
    let disk = read_short MOST_DISK_BYTES DiskTooLong _ bytes found.disk script.2 in
    let same : bytes ≡ record { image = image.0; script = script.0; disk = disk.0 } = let e = disk.2 in cc in
    let short : AreShort (record { image = image.0; script = script.0; disk = disk.0 }) = record { image = image.1; script = script.1; disk = disk.1 } in
    subst AreShort (sym same) short
