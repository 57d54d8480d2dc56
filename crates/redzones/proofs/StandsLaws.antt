-- What redzones stand for, with one event more.
use Rattle.std.proofs.Common.{◌≡◌, ℕ, ◌+◌, ◌*◌, ◌^◌, ◌<◌, ◌≤◌, true, cond, List, [], ◌∷◌, ◌++◌, length, reverse, unwrap_or, sym, ap, ◌∙◌, arith}
use Rattle.std.specs.Option.{option_map}
use Rattle.memory_map.specs.declared.TheConstants.{MOST_RAM_KIB, RAM_START}
use Rattle.memory_map.specs.Ram.{in_ram}
use Rattle.list_laws.proofs.LeastLaws.{is_between-yes}
use Rattle.list_laws.proofs.ReverseLaws.{reverse-last}
use Rattle.run_events.specs.declared.event.Event.{Event}
use Rattle.run_events.specs.declared.finding.Kind.TheVariants as kind
use Rattle.run_events.specs.Announcement.{announced}
use Rattle.run_events.specs.Event.{Fits}
use Rattle.analysis_model.specs.Complaints.{complaint, findings}
use Rattle.analysis_model.specs.Heap.{Plain, use_made, use_after}
use Rattle.analysis_model.specs.Look.{finding_of, found_at}
use Rattle.analysis_model.proofs.HeapLaws.{heap_by-same}
use Rattle.analysis_model.proofs.LookLaws.{told_at-more}
use Rattle.finding_tally.specs.Tallied.{Tallied, Tallies}
use Rattle.finding_tally.proofs.TalliedLaws.{tallied_with-more}
use Rattle.shadow_state.specs.Shade.{Shade, shade, has_byte, covers, painted}
use Rattle.shadow_state.proofs.PaintLaws.{painted-at, has_byte-painted}
use Rattle.shadow_state.proofs.SizeLaws.{length_painted, has_byte_of}
use Rattle.redzones.specs.declared.zones.TheConstants.{PLAIN}
use Rattle.redzones.specs.Zones.{Zones, Stands, guest_now, use_coded, use_in, found_now, after}
use Rattle.redzones.proofs.UseLaws.{length-painted_by, painted_by-use}

has_byte-painted_by : (z : Zones) (event : Event) (address : ℕ) → has_byte (after z event).shade address ≡ has_byte z.shade address
has_byte-painted_by z event address = ap (λ n. in_ram n address 1) (length-painted_by z.shade (announced event))

-- what is found now is what the look back finds
found-same : (z : Zones) (event : Event) (h : List Event) → Fits z.ram_kib event → Stands z h → found_now z event ≡ found_at (complaint kind.Heap (guest_now z)) (reverse h) event
found-same z event h fits stands =
    ap (option_map (finding_of event)) (heap_by-same z.ram_kib (use_in z.shade) (use_after (reverse h)) (λ a within. stands.uses a (has_byte_of z.shade (1024 * z.ram_kib) a stands.whole within)) event fits)

-- they stand for one event more, once they have taken that in
pub Stands-more : (z : Zones) (event : Event) (h : List Event) → Fits z.ram_kib event → Stands z h → Stands (after z event) (h ++ event ∷ [])
Stands-more z event h fits stands = record {
  whole = length-painted_by z.shade (announced event) ∙ stands.whole;
  uses = λ a there.
      let there_before : has_byte z.shade a ≡ true = sym (has_byte-painted_by z event a) ∙ there in
      painted_by-use z.shade (announced event) a there_before
      ∙ ap (unwrap_or (use_made (announced event) a)) (stands.uses a there_before)
      ∙ ap (λ l. use_after l a) (sym (reverse-last h event));
  tallied =
      rw (told_at-more (found_at (complaint kind.Heap (guest_now z))) h event, ← found-same z event h fits stands)
      (tallied_with-more z.found (findings kind.Heap (guest_now z) h) (found_now z event) stands.tallied);
}

-- at first each byte of RAM is plain
plain_at : (old : Shade) (kib most address : ℕ) → kib ≤ MOST_RAM_KIB → 2 ^ 32 ≤ most → length old.bytes ≡ 1024 * kib → has_byte old address ≡ true → use_in (painted old 0 most PLAIN) address ≡ Plain
plain_at old kib most address small far whole there =
    let low : RAM_START ≤ address = grind (arith, there) in
    let high : address < RAM_START + length old.bytes = grind (arith, there) in
    let inside : covers 0 most address ≡ true = is_between-yes 0 most address (omega arith) (omega (arith, high, whole, small, far)) in
    ap use_coded (painted-at old 0 most PLAIN address there ∙ ap (λ b. cond b PLAIN (shade old address)) inside)

pub Stands_new : (old new : Shade) (kib most : ℕ) (found : Tallied) → kib ≤ MOST_RAM_KIB → 2 ^ 32 ≤ most → length old.bytes ≡ 1024 * kib → new ≡ painted old 0 most PLAIN → Tallies found []
    → Stands (record { ram_kib = kib; shade = new; found = found }) []
Stands_new old new kib most found small far whole is tallies = record {
  whole = length_painted old new 0 most PLAIN is ∙ whole;
  uses = λ a there.
      let there_before : has_byte old a ≡ true = sym (ap (λ s. has_byte s a) is ∙ has_byte-painted old 0 most PLAIN a) ∙ there in
      ap (λ s. use_in s a) is ∙ plain_at old kib most a small far whole there_before;
  tallied = tallies;
}
