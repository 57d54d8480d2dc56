-- What an analysis is made of tells its findings and its part of the report: coverage alone looks at the guest's code, and
-- it is made of that.
use Rattle.std.proofs.Common.{◌≡◌, ℕ, List, refl, ap}
use Rattle.run_events.specs.declared.event.Event.{Event}
use Rattle.run_events.specs.declared.finding.Kind.{Kind}
use Rattle.run_events.specs.declared.finding.Kind.TheVariants.{Heap, Taint, Calls, Cover, Locks}
use Rattle.machine_model.specs.Image.{Image}
use Rattle.analysis_model.specs.Calls.{frames_kept}
use Rattle.analysis_model.specs.Complaints.{Guest, findings}
use Rattle.analysis_model.specs.Cover.{CodeRange}
use Rattle.analysis_model.specs.Locks.{locks_kept}
use Rattle.analysis_model.specs.Made.{make_of, kind_made_of, guest_made_of, guest_of}
use Rattle.analysis_model.specs.Report.{part_text}
use Rattle.analysis_model.proofs.MadeLaws.{code_made_of-cover}
use Rattle.analysis_set.specs.Analysis.{findings_made, part_made}

-- the kind is the first of the numbers
pub kind_made_of-make : (kind : Kind) (image : Image) → kind_made_of (make_of kind image) ≡ kind
kind_made_of-make Heap image = refl
kind_made_of-make Taint image = refl
kind_made_of-make Calls image = refl
kind_made_of-make Cover image = refl
kind_made_of-make Locks image = refl

guest-cover : (image : Image) (kib : ℕ) → guest_made_of kib (make_of Cover image) ≡ guest_of image kib
guest-cover image kib =
    let guest : List CodeRange → Guest = λ code. record { code = code; ram_kib = kib; frames = frames_kept; locks = locks_kept } in
    ap guest (code_made_of-cover image)

-- findings of a guest that is known by its image
pub findings-guest : (kind : Kind) (image : Image) (kib : ℕ) (h : List Event) → findings kind (guest_made_of kib (make_of kind image)) h ≡ findings kind (guest_of image kib) h
findings-guest Heap image kib h = refl
findings-guest Taint image kib h = refl
findings-guest Calls image kib h = refl
findings-guest Cover image kib h = ap (λ guest. findings Cover guest h) (guest-cover image kib)
findings-guest Locks image kib h = refl

-- and the lines of an analysis
pub part_text-guest : (kind : Kind) (image : Image) (kib : ℕ) (h : List Event) → part_text (guest_made_of kib (make_of kind image)) h kind ≡ part_text (guest_of image kib) h kind
part_text-guest Heap image kib h = refl
part_text-guest Taint image kib h = refl
part_text-guest Calls image kib h = refl
part_text-guest Cover image kib h = ap (λ guest. part_text guest h Cover) (guest-cover image kib)
part_text-guest Locks image kib h = refl

-- both from what an analysis was made of
pub findings_made-of : (made : List ℕ) (kind : Kind) (image : Image) (kib : ℕ) (h : List Event) → made ≡ make_of kind image → findings_made kib made h ≡ findings kind (guest_of image kib) h
findings_made-of made kind image kib h is = rw (is, kind_made_of-make kind image) (findings-guest kind image kib h)

pub part_made-of : (made : List ℕ) (kind : Kind) (image : Image) (kib : ℕ) (h : List Event) → made ≡ make_of kind image → part_made kib made h ≡ part_text (guest_of image kib) h kind
part_made-of made kind image kib h is = rw (is, kind_made_of-make kind image) (part_text-guest kind image kib h)
