use Rattle.std.proofs.Common.{◌≡◌, ◌++◌, ◌∷◌, [], arith, ◌+◌, take, set}
use Rattle.std.proofs.lemmas.List.{take_more_set}
use Rattle.run_settings.proofs.KindLaws.{room, kept_more}
use Rattle.run_settings.proofs.kinds.Kinds.add.Goals as goal

pub bounds-self-inside-self-inside : goal.bounds-self-inside-self-inside
bounds-self-inside-self-inside c = room _ _ c.args.kind c.self.invariant (rw c.self.view_is c.requires)

pub invariant_of-self : goal.invariant_of-self
invariant_of-self c = kept_more _ _ c.args.kind c.self.invariant (rw c.self.view_is c.requires)

pub returns : goal.returns
returns c =
    let used = c.self.inside.used in
    let places = c.self.inside.places in
    let below = room used places c.args.kind c.self.invariant (rw c.self.view_is c.requires) in
    let front : take (used + 1) (set places used c.args.kind) ≡ take used places ++ c.args.kind ∷ [] = take_more_set places used c.args.kind (let five = c.self.invariant.five in omega arith) in
    rw (← c.self.view_is) front
