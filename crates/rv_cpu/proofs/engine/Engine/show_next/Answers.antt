-- What is told is told of the step.
use Rattle.std.proofs.Common.{◌≡◌, ◌∙◌, ◌+◌, ◌++◌, ◌∷◌, [], true, length, Option, Some, is_some, ap, sym, subst, arith}
use Rattle.memory_map.specs.Ram.{in_ram}
use Rattle.run_events.specs.declared.access.Told.{Told}
use Rattle.run_events.specs.declared.event.Event.{Event}
use Rattle.rv_decode.specs.Listing.{instruction}
use Rattle.rv_memory.specs.Ram.{loaded}
use Rattle.hart_model.specs.State.{State}
use Rattle.rv_cpu.specs.Midway.{at}
use Rattle.rv_cpu.specs.Told.{events_told, idle_told, next_told, state_told, told_midway}
use Rattle.rv_cpu.proofs.IdleLaws.{idle_next}
use Rattle.rv_cpu.proofs.ToldLaws.{told_found}
use Rattle.rv_cpu.proofs.engine.Engine.show_next.Given.{Over}
use Rattle.rv_cpu.proofs.engine.Engine.show_next.Goals as goal

pub tell-requires-clause-fits : goal.tell-requires-clause-fits
tell-requires-clause-fits g c event next told =
    let s = c.args.self.now in
    let word = c.load-word.result in
    let m = at 4 c.execute_plainly-done.result c.execute_plainly-done.new.self in
    let there : in_ram (length s.ram) s.pc 4 ≡ true = grind (arith, c.holds.ensures, c.if-not-holds.false, c.self.view_is) in
    let is : word ≡ loaded s.ram s.pc 4 = grind (arith, c.load-word.ensures, c.self.view_is) in
    let read : Some c.in-Some.instr ≡ instruction word = c.in-Some.ensures.read in
    c.requires.fits event next
    (told_found c.args.behind c.args.lines s word c.in-Some.instr m there is read c.execute_plainly-done.ensures
    ∙ ap (λ (t : Told). told_midway c.args.behind t word m) (sym c.argument_registers-told.ensures) ∙ told)

pub show_idle-requires : goal.show_idle-requires
show_idle-requires g c =
    let s = c.args.self.now in
    let there : in_ram (length s.ram) s.pc 4 ≡ true = grind (arith, c.holds.ensures, c.if-not-holds.false, c.self.view_is) in
    let is : c.load-word.result ≡ loaded s.ram s.pc 4 = grind (arith, c.load-word.ensures, c.self.view_is) in
    record { fits = c.requires.fits _ _ (idle_next c.args.behind c.args.lines s c.load-word.result there is (sym c.may_announce.ensures.form ∙ c.if-may_announce.true)) }

-- a word that may announce something does nothing else
idle : (g : Over) (c : goal.After-show_idle-then-may_announce g) → next_told c.args.behind c.args.lines c.args.self.now ≡ Some (idle_told (c.args.self.now.step + c.args.behind) c.load-word.result c.args.self.now)
idle g c =
    let s = c.args.self.now in
    let there : in_ram (length s.ram) s.pc 4 ≡ true = grind (arith, c.holds.ensures, c.if-not-holds.false, c.self.view_is) in
    let is : c.load-word.result ≡ loaded s.ram s.pc 4 = grind (arith, c.load-word.ensures, c.self.view_is) in
    idle_next c.args.behind c.args.lines s c.load-word.result there is (sym c.may_announce.ensures.form ∙ c.if-may_announce.true)

pub returns-then-may_announce-clause-answer : goal.returns-then-may_announce-clause-answer
returns-then-may_announce-clause-answer g c = sym (ap is_some (idle g c))

pub returns-then-may_announce-clause-state : goal.returns-then-may_announce-clause-state
returns-then-may_announce-clause-state g c = c.show_idle-then-may_announce.ensures.state ∙ sym (ap (state_told c.args.self.now) (idle g c))

pub returns-then-may_announce-clause-seen : goal.returns-then-may_announce-clause-seen
returns-then-may_announce-clause-seen g c h was =
    let Now = g.W.Watcher.has_seen c.show_idle-then-may_announce.new.seen in
    subst (λ (o : Option (Event × State)). Now (h ++ events_told o)) (sym (idle g c))
    (subst (λ (s : State). Now (h ++ (idle_told (s.step + c.args.behind) c.load-word.result c.args.self.now).0 ∷ [])) c.show_idle.view_is (c.show_idle-then-may_announce.ensures.seen h was))
