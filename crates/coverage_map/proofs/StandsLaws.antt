-- What coverage stands for, with one event more, and what it tells then.
use Rattle.std.proofs.Common.{◌≡◌, ℕ, ◌+◌, ◌-◌, ◌*◌, ◌/◌, ◌<◌, true, List, [], ◌∷◌, ◌++◌, length, None, refl, sym, ap, ◌∙◌, arith, append-nil}
use Rattle.std.specs.List.{filter_map, cons_option}
use Rattle.std.proofs.lemmas.List.{length-set}
use Rattle.std.proofs.lemmas.List.Elements.{filter_map-append}
use Rattle.memory_map.specs.declared.TheConstants.{RAM_START}
use Rattle.run_events.specs.declared.event.Event.{Event}
use Rattle.run_events.specs.declared.event.Event.TheVariants.{Dma, Irq, Trap, Exec}
use Rattle.run_events.specs.declared.finding.Kind.TheVariants.{Cover}
use Rattle.run_events.specs.Event.{Fits, IsWordInRam}
use Rattle.analysis_model.specs.Ascending.{with_member, ascending}
use Rattle.analysis_model.specs.Complaints.{Guest, findings}
use Rattle.analysis_model.specs.Cover.{executed_pc, executed_pcs}
use Rattle.analysis_model.proofs.CoverLaws.{findings-cover, outside}
use Rattle.finding_tally.specs.Tallied.{Tallied, Tallies, tallied_with}
use Rattle.finding_tally.proofs.TalliedLaws.{tallied_with-more}
use Rattle.coverage_map.specs.Coverage.{Covered, guest_now, marked, Stands, with_mark, after}
use Rattle.coverage_map.proofs.AscendingLaws.{ascending-last}
use Rattle.coverage_map.proofs.MarkLaws.{marked_from-set}

-- the word of an executed instruction
marked-more : (c : Covered) (h : List Event) (pc : ℕ) → IsWordInRam c.ram_kib pc → Stands c h → marked (with_mark c pc).marks ≡ ascending (filter_map executed_pc h ++ pc ∷ [])
marked-more c h pc fetched stands =
    let place = (pc - RAM_START) / 4 in
    let here : pc ≡ RAM_START + 4 * place = omega (arith, fetched.aligned, fetched.within.from) in
    let room : place < length c.marks = omega (arith, fetched.within.to, stands.whole) in
    marked_from-set c.marks RAM_START place pc here room ∙ ap (with_member pc) stands.executed ∙ sym (ascending-last (filter_map executed_pc h) pc)

executed-more : (event : Event) (h : List Event) → executed_pcs (h ++ event ∷ []) ≡ ascending (filter_map executed_pc h ++ cons_option (executed_pc event) [])
executed-more event h = ap ascending (filter_map-append executed_pc h (event ∷ []))

executed-same : (event : Event) (h : List Event) → executed_pc event ≡ None → executed_pcs (h ++ event ∷ []) ≡ executed_pcs h
executed-same event h e = executed-more event h ∙ ap (λ pc. ascending (filter_map executed_pc h ++ cons_option pc [])) e ∙ ap ascending (append-nil (filter_map executed_pc h))

found-more : (t : Tallied) (guest : Guest) (event : Event) (h : List Event) → Tallies t (findings Cover guest h) → Tallies (tallied_with t (outside guest.code event)) (findings Cover guest (h ++ event ∷ []))
found-more t guest event h tallied =
    rw (findings-cover guest (h ++ event ∷ []), filter_map-append (outside guest.code) h (event ∷ []), ← findings-cover guest h)
    (tallied_with-more t (findings Cover guest h) (outside guest.code event) tallied)

-- it stands for one event more, once it has taken that in
pub Stands-more : (c : Covered) (event : Event) (h : List Event) → Fits c.ram_kib event → Stands c h → Stands (after c event) (h ++ event ∷ [])
Stands-more c (Dma step address word mark) h fits stands =
    let event : Event = Dma step address word mark in
    record { whole = stands.whole; executed = stands.executed ∙ sym (executed-same event h refl); tallied = found-more c.found (guest_now c) event h stands.tallied }
Stands-more c (Irq step pc cause next) h fits stands =
    let event : Event = Irq step pc cause next in
    record { whole = stands.whole; executed = stands.executed ∙ sym (executed-same event h refl); tallied = found-more c.found (guest_now c) event h stands.tallied }
Stands-more c (Trap step pc word cause value next) h fits stands =
    let event : Event = Trap step pc word cause value next in
    record { whole = stands.whole; executed = stands.executed ∙ sym (executed-same event h refl); tallied = found-more c.found (guest_now c) event h stands.tallied }
Stands-more c (Exec step pc word next result access told) h fits stands =
    let event : Event = Exec step pc word next result access told in
    let place = (pc - RAM_START) / 4 in
    record {
      whole = length-set c.marks place true ∙ stands.whole;
      executed = marked-more c h pc fits.fetched stands ∙ sym (executed-more event h);
      tallied = found-more c.found (guest_now c) event h stands.tallied;
    }
