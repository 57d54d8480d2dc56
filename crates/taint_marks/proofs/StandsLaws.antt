-- What marks stand for, at first and with one event more.
use Rattle.std.proofs.Common.{◌≡◌, ℕ, ◌*◌, List, [], ◌∷◌, ◌++◌, length, replicate, reverse, refl, sym, ap, ◌∙◌}
use Rattle.std.specs.Option.{option_map}
use Rattle.list_laws.proofs.ReverseLaws.{reverse-last}
use Rattle.run_events.specs.declared.event.Event.{Event}
use Rattle.run_events.specs.declared.finding.Kind.TheVariants as kind
use Rattle.run_events.specs.Event.{Fits}
use Rattle.analysis_model.specs.Complaints.{complaint, findings}
use Rattle.analysis_model.specs.Look.{finding_of, found_at}
use Rattle.analysis_model.specs.Taint.{Place, Register, Scratch, Byte, IsPlace, writes_of, mark_after}
use Rattle.analysis_model.proofs.LookLaws.{told_at-more}
use Rattle.analysis_model.proofs.TaintLaws.{written-same, taint_by-same}
use Rattle.finding_tally.specs.Tallied.{Tallied, Tallies}
use Rattle.finding_tally.proofs.TalliedLaws.{tallied_with-more}
use Rattle.shadow_state.specs.Shade.{Shade, IsPainted}
use Rattle.shadow_state.proofs.SizeLaws.{has_byte_of}
use Rattle.taint_marks.specs.Marked.{marked_by}
use Rattle.taint_marks.specs.Marks.{Marks, Stands, guest_now, mark_now, found_now, after}
use Rattle.taint_marks.proofs.MarkLaws.{marks-given, length-registers_with, length-shade_with, zeros}

-- what is found now is what the look back finds
found-same : (m : Marks) (event : Event) (h : List Event) → Stands m h → found_now m event ≡ found_at (complaint kind.Taint (guest_now m)) (reverse h) event
found-same m event h stands = ap (option_map (finding_of event)) (taint_by-same m.ram_kib (mark_now m) (mark_after (reverse h)) stands.marks event)

-- it stands for one event more, once it has taken that in
pub Stands-more : (m : Marks) (event : Event) (h : List Event) → Fits m.ram_kib event → Stands m h → Stands (after m event) (h ++ event ∷ [])
Stands-more m event h fits stands = record {
  whole = length-shade_with m.shade (writes_of event).address (writes_of event).width (marked_by (mark_now m) (writes_of event)).stored ∙ stands.whole;
  general = length-registers_with m.registers (writes_of event).rd (marked_by (mark_now m) (writes_of event)).result ∙ stands.general;
  marks = λ place is.
      marks-given m (after m event).found (writes_of event) stands.general stands.whole place is
      ∙ written-same m.ram_kib (mark_now m) (mark_after (reverse h)) stands.marks event place fits is
      ∙ ap (λ l. mark_after l place) (sym (reverse-last h event));
  tallied =
      rw (told_at-more (found_at (complaint kind.Taint (guest_now m))) h event, ← found-same m event h stands)
      (tallied_with-more m.found (findings kind.Taint (guest_now m) h) (found_now m event) stands.tallied);
}

-- at first nothing is marked
module _ (s : Shade) (kib : ℕ) (found : Tallied) where
  unmarked_at : length s.bytes ≡ 1024 * kib → IsPainted s [] → (place : Place) → IsPlace kib place → mark_now (record { ram_kib = kib; registers = replicate 32 0; scratch = 0; shade = s; found = found }) place ≡ 0
  unmarked_at whole clear (Register n) is = zeros 32 n
  unmarked_at whole clear Scratch is = refl
  unmarked_at whole clear (Byte a) is = clear a (has_byte_of s (1024 * kib) a whole is)

  pub Stands_new : length s.bytes ≡ 1024 * kib → IsPainted s [] → Tallies found [] → Stands (record { ram_kib = kib; registers = replicate 32 0; scratch = 0; shade = s; found = found }) []
  Stands_new whole clear tallies = record { whole = whole; general = refl; marks = unmarked_at whole clear; tallied = tallies }
