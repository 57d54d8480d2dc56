use Rattle.std.proofs.Common.{◌≡◌, ◌+◌, ◌-◌, ◌*◌, ◌≤◌, take, drop, length-take, true, false, List, [], ℕ, length, arith, rules, ◌∙◌, ap, sym}
use Rattle.std.specs.Prelude.{◌==◌}
use Rattle.machine_model.specs.Board as model
use Rattle.memory_map.specs.declared.TheConstants.{RAM_START}
use Rattle.rv_memory.proofs.RamLaws.{length-placed}
use Rattle.rv_devices.specs.Serves.{activity_of}
use Rattle.rv_devices.proofs.SendLaws.{no_words}
use Rattle.rv_devices.proofs.DiskLaws.{not_busy, accepted_below, accepted_sector, writing}
use Rattle.rv_devices.proofs.disk.Disk.command.Goals as goal

pub returns-clause-serves : goal.returns-clause-serves
returns-clause-serves c = λ script step words state at serves.
    let old = c.args.self.now in
    let next = c.write.new.self in
    let w = c.write.ensures in
    let ram : List ℕ = c.args.ram.now in
    let idle : model.is_busy state.activity ≡ false = not_busy state.activity (λ is. c.if-status-eq1.false (c.status.ensures ∙ ap model.status_of serves.activity_is ∙ is)) in
    let yes : c.accepts.result ≡ true = search rules in
    let own : model.is_accepted (length ram) (model.sector_count old.bytes.items) c.args.command old.sector old.address ≡ true = sym c.accepts.ensures ∙ yes in
    let accepted : model.is_accepted (length ram) (model.sector_count state.bytes) c.args.command state.sector state.address ≡ true = rw (← serves.bytes_are, ← serves.sector_is, ← serves.address_is) own in
    let other : (c.args.command == 1) ≡ false = search rules in
    let below : old.address + 512 ≤ RAM_START + length ram = accepted_below (length ram) (model.sector_count old.bytes.items) c.args.command old.sector old.address own in
    let kept : length (model.with_sector ram state) ≡ length state.bytes = length-placed state.bytes (512 * state.sector) (take 512 (drop (state.address - RAM_START) ram)) (omega (arith, length-take 512 (drop (state.address - RAM_START) ram), accepted_sector (length ram) (model.sector_count state.bytes) c.args.command state.sector state.address accepted)) in
    rw (writing script step ram c.args.command state idle accepted other)
    (record {
      bytes_are = cc (w.bytes, serves.bytes_are, serves.sector_is, serves.address_is);
      small = omega (arith, serves.small, kept);
      sectors_are = w.begins.sectors ∙ serves.sectors_are;
      sector_is = w.begins.sector ∙ serves.sector_is;
      address_is = w.begins.address ∙ serves.address_is;
      control_is = w.begins.control ∙ serves.control_is;
      activity_is = ap (λ a. activity_of a next.pending) w.begins.busy ∙ ap (λ l. model.busy_until c.args.before l) (no_words next.pending w.sent) ∙ ap (λ n. model.busy_until n []) at;
      below = omega (arith, w.sent, w.begins.to, below, c.requires);
      sending = rw w.begins.sending serves.sending;
    })
