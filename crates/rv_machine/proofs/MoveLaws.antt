-- What a turn moves, where part of it was done before.
use Rattle.std.proofs.Common.{◌≡◌, ℕ, false, ◌+◌, ◌/◌, ◌≤◌, List, Option, None, Some, ap, ◌∙◌, arith}
use Rattle.run_events.specs.declared.item.Item.{Item}
use Rattle.rv_machine.specs.Phase.{is_over}
use Rattle.rv_machine.specs.ToCome.{FoundNext, MovesOn, ToCome, IsOneTurn, to_do}
use Rattle.rv_machine.specs.declared.machine.Machine.{Machine}

pub moves_past : (given : Option Item) (before mid after : Machine) → before.cpu.step ≤ mid.cpu.step → mid.cpu.step / 256 ≡ before.cpu.step / 256 → to_do mid ≤ to_do before → MovesOn given mid after → MovesOn given before after
moves_past None before mid after past same less m = record { going = m.going; onward = omega (arith, m.onward, past); block = m.block ∙ same; less = omega (arith, m.less, less) }
moves_past (Some item) before mid after past same less m = record { few = omega (arith, m.few, same); less = omega (arith, m.less, less) }

pub moves_from : (given : Option Item) (before mid after : Machine) → mid.cpu.step ≡ before.cpu.step → to_do mid ≤ to_do before → MovesOn given mid after → MovesOn given before after
moves_from given before mid after same less m = moves_past given before mid after (omega (arith, same)) (ap (λ n. n / 256) same) less m

-- so many turns went on from a machine
pub record GoneOn (turns : ℕ) (before now : Machine) : Type 0 where
  pub gives : (items : List Item) → ToCome before items → ToCome now items
  pub going : is_over now.phase ≡ false
  pub onward : before.cpu.step + turns ≤ now.cpu.step
  pub block : now.cpu.step / 256 ≡ before.cpu.step / 256
  pub less : to_do now ≤ to_do before

pub goes_on : (turns : ℕ) (before now after : Machine) → GoneOn turns before now → IsOneTurn None now after → GoneOn (turns + 1) before after
goes_on turns before now after gone turned = record {
  gives = λ items is. turned.gives items (gone.gives items is);
  going = turned.moves.going;
  onward = omega (arith, gone.onward, turned.moves.onward);
  block = turned.moves.block ∙ gone.block;
  less = omega (arith, gone.less, turned.moves.less);
}

pub found : (turns : ℕ) (before now after : Machine) (item : Item) → GoneOn turns before now → IsOneTurn (Some item) now after → FoundNext item before after
found turns before now after item gone turned = record {
  gives = λ items is. turned.gives items (gone.gives items is);
  few = omega (arith, gone.block, turned.moves.few);
  less = omega (arith, gone.less, turned.moves.less);
}
