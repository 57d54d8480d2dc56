use Rattle.std.proofs.Common.{ℕ, ◌-◌, ◌*◌, ◌+◌, List, length, drop, arith, ap, length-take, length-drop}
use Rattle.memory_map.specs.declared.TheConstants.{RAM_START}
use Rattle.rv_devices.proofs.disk.Disk.write.Goals as goal

pub copy_from_slice-requires : goal.copy_from_slice-requires
copy_from_slice-requires c =
    let at = 512 * c.args.self.now.sector in
    let bytes : List ℕ = c.deref_mut.result.now in
    let rest : List ℕ = drop (c.args.self.now.address - RAM_START) c.args.ram.now in
    omega (arith, length-take (at + 512 - at) (drop at bytes), length-drop at bytes, ap length c.deref_mut.ensures.value, ap length c.bytes.ensures, length-take 512 rest, length-drop (c.args.self.now.address - RAM_START) c.args.ram.now, c.requires.sector, c.requires.held.from, c.requires.held.to)
