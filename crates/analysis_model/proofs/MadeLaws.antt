-- What an analysis is made of says which kind it is, and where the guest's code is.
use Rattle.std.proofs.Common.{◌≡◌, ◌+◌, true, false, cond, List, [], ◌∷◌, refl, ap}
use Rattle.run_events.specs.declared.finding.Kind.TheVariants.{Cover}
use Rattle.machine_model.specs.Image.{Image, Segment}
use Rattle.analysis_model.specs.Cover.{CodeRange, ranges_of, executable_ranges}
use Rattle.analysis_model.specs.Made.{code_numbers, make_of, ranges_made_of, code_made_of}

ranges_made_of-code_numbers : (segments : List Segment) → ranges_made_of (code_numbers segments) ≡ ranges_of segments
ranges_made_of-code_numbers [] = refl
ranges_made_of-code_numbers (segment ∷ segments) =
    let range : CodeRange = record { from = segment.address; to = segment.address + segment.size } in
    let rest = ranges_made_of-code_numbers segments in
    elim segment.executable as (λ b. ranges_made_of (cond b (segment.address ∷ segment.size ∷ code_numbers segments) (code_numbers segments)) ≡ cond b (range ∷ ranges_of segments) (ranges_of segments)) [
      | true ↦ ap (λ l. range ∷ l) rest
      | false ↦ rest
    ]

-- coverage is made of the guest's code
pub code_made_of-cover : (image : Image) → code_made_of (make_of Cover image) ≡ executable_ranges image
code_made_of-cover image = ranges_made_of-code_numbers image.segments
