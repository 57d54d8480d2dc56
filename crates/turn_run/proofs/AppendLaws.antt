-- A turn of the recorder, where the core stands.
use Rattle.std.proofs.Common.{◌≡◌, inl, inr, ℕ, ◌+◌, ◌-◌, ◌*◌, ◌<◌, ◌≤◌, Bool, true, false, cond, List, [], ◌∷◌, ◌++◌, length, take, drop, Option, Some, None, refl, sym, ap, subst, ◌∙◌, arith}
use Rattle.std.specs.Prelude.{◌&&◌, not, is_some, IfSome, map, slice_index_or}
use Rattle.std.specs.List.{sum_by}
use Rattle.std.proofs.lemmas.List.Sums.{sum_by-cons}
use Rattle.std.proofs.lemmas.Nat.{mul-le}
use Rattle.std.proofs.lemmas.List.{reverse-append, length_push}
use Rattle.std.proofs.lemmas.Bool.{and_parts, eqb-true, not-false, not-true}
use Rattle.list_laws.proofs.PlaceLaws.{dropped-at}
use Rattle.run_events.specs.declared.item.Item.{Item}
use Rattle.run_events.specs.Record.{number}
use Rattle.gate_core.specs.declared.full.Full.{Full}
use Rattle.gate_core.specs.declared.verdict.Verdict.{Verdict}
use Rattle.gate_core.specs.Core.{CoreState, Append, Close, IsSound}
use Rattle.gate_core.specs.Hub.{HubState, full_of, no_verdict, with_append, with_close}
use Rattle.gate_core.specs.Follow.{hub_of}
use Rattle.gate_core.proofs.CoreLaws.{event_IsSound}
use Rattle.gate_core.proofs.FollowLaws.{appends, named}
use Rattle.output_gate.specs.declared.gate.TheConstants.{ROOM}
use Rattle.output_gate.specs.Gate.{GateState, is_full, is_withheld, with_issue}
use Rattle.turn_run.specs.declared.ending.Ending.{Ending}
use Rattle.turn_run.specs.declared.parts.Parts.{Parts}
use Rattle.turn_run.specs.declared.source.Source.{Source}
use Rattle.any_machine.specs.Recording.{Recording}
use Rattle.turn_run.specs.Following.{Following}
use Rattle.turn_run.specs.Course.{Course, IsCourse, log_of, plan_of}
use Rattle.turn_run.specs.Endings.{end_at, end_back, end_in}
use Rattle.turn_run.specs.Gates.{Gates, has_room, with_byte, with_item}
use Rattle.turn_run.specs.Replicas.{Follows}
use Rattle.turn_run.specs.Runs.{HasAppended, HasClosed, HasNoRoom, HasWaited, IsAt, next_has_byte, unread}
use Rattle.turn_run.specs.Sources.{StillToCome}
use Rattle.turn_run.proofs.CourseLaws.{IsNext, is_plan, length_log, next_item, no_item_left}
use Rattle.turn_run.proofs.IssueLaws.{after_item, rises_next}

-- the followers stand as well where other records were appended, or the log was closed
follows_as : {F : Type 0} (f : Following F) (c : Course) (core : CoreState) (hub : HubState) (followers : List F) → Follows f c core hub followers → (appended : ℕ) (closed : Bool) (hub' : HubState)
    → hub' ≡ hub_of (plan_of c) (record core { appended = appended; closed = closed }) hub.verdicts → IsSound (plan_of c) (record core { appended = appended; closed = closed })
    → Follows f c (record core { appended = appended; closed = closed }) hub' followers
follows_as f c core hub followers fs appended closed hub' stands sound =
    let posted : hub'.verdicts ≡ hub.verdicts = λ i. (stands i).verdicts in
    record {
      course = fs.course;
      stands = stands ∙ ap (hub_of (plan_of c) (record core { appended = appended; closed = closed })) (sym posted);
      approved = (λ i. map (λ (v : Verdict). v.approved) (posted i)) ∙ fs.approved;
      sound = sound;
      count = fs.count;
      each = fs.each;
      posted = λ reader follower at. ap (λ l. slice_index_or l reader no_verdict) posted ∙ fs.posted reader follower at;
    }

-- where there is room, no reader has a whole log still to take, and the gate takes the byte
rooms : (o : Option Full) (crowded : Bool) → true ≡ (not (is_some o) && not crowded) → (o ≡ None) × (crowded ≡ false)
rooms None crowded room = (refl, not-true crowded (sym room))
rooms (Some full) crowded room = absurd (let clash : true ≡ false = room in cc)

module _ {M F : Type 0} (r : Recording M) (f : Following F) (c : Course) (core : CoreState) (parts : Parts M F) (at : IsAt r f c core parts) where
  abbrev is : IsCourse c
  is = at.follows.course

  closed_is : parts.hub.closed ≡ core.closed
  closed_is = λ i. (at.follows.stands i).closed

  open_before : parts.hub.closed ≡ false → core.closed ≡ false
  open_before opened = sym closed_is ∙ opened

  -- the gate stands where other records were appended or the log was closed, as long as no byte is issued
  gates_closed : Gates c (record core { appended = core.appended; closed = true }) parts.gate
  gates_closed = record {
    steps = at.gates.steps;
    bytes = at.gates.bytes;
    issued = at.gates.issued;
    released = at.gates.released;
    last = at.gates.last;
    passed = at.gates.passed;
    withheld = at.gates.withheld;
    sound = at.gates.sound;
    there = at.gates.there;
    few = at.gates.few;
  }

  -- nothing is to come: the log is closed
  pub after_close : (source : Source M) (hub : HubState) → parts.hub.closed ≡ false → hub ≡ with_close parts.hub → drop core.appended c.items ≡ [] → StillToCome r source []
      → HasClosed r f c core parts (record { source = source; hub = hub; followers = parts.followers; required = parts.required; gate = parts.gate; end = parts.end })
  after_close source hub opened hub_is none left =
      let fs = at.follows in
      let all : core.appended ≡ length c.items = omega (arith, no_item_left c is core.appended none, fs.sound.appended, length_log c is) in
      record {
        «open» = open_before opened;
        all = all;
        at = record {
          follows = follows_as f c core parts.hub parts.followers.items fs core.appended true hub (hub_is ∙ ap with_close fs.stands)
              (event_IsSound (plan_of c) core Close (is_plan c is) fs.sound (open_before opened, inl (omega (arith, all, length_log c is))));
          rest = subst (StillToCome r source) (sym none) left;
          gates = gates_closed;
          required = at.required;
          end = at.end;
          sound = at.sound;
        };
        gate = refl;
        followers = refl;
      }

  -- an item is to come
  module _ (item : Item) (rest : List Item) (first : drop core.appended c.items ≡ item ∷ rest) where
    pub next : IsNext c core.appended item rest
    next = next_item c is core.appended item rest first

    pub rises : IfSome item.byte (λ byte. parts.gate.next ≤ number item.item - 1)
    rises = rises_next c core parts.gate at.gates is item rest next

    full_none : full_of parts.hub ≡ None → full_of (hub_of (plan_of c) core parts.hub.verdicts) ≡ None
    full_none none = ap full_of (sym at.follows.stands) ∙ none

    pub after_append : (source : Source M) (hub : HubState) (gate : GateState) (end : Option Ending) → parts.hub.closed ≡ false → true ≡ has_room parts.hub parts.gate item
        → hub ≡ with_append parts.hub item.item → gate ≡ with_item parts.gate item → end ≡ end_at item.item → StillToCome r source rest
        → HasAppended r f c core parts (record { source = source; hub = hub; followers = parts.followers; required = parts.required; gate = gate; end = end })
    after_append source hub gate end opened room hub_is gate_is end_is left =
        let fs = at.follows in
        let both = rooms (full_of parts.hub) (is_some item.byte && is_full parts.gate) room in
        let does = appends (plan_of c) core parts.hub.verdicts item.item fs.sound (open_before opened) at.sound next.at (full_none both.0) in
        record {
          «open» = open_before opened;
          item = item;
          next = dropped-at core.appended c.items item rest first;
          at = record {
            follows = follows_as f c core parts.hub parts.followers.items fs (core.appended + 1) core.closed hub (hub_is ∙ ap (λ h. with_append h item.item) fs.stands ∙ does.after)
                (event_IsSound (plan_of c) core Append (is_plan c is) fs.sound does.may);
            rest = subst (StillToCome r source) (sym next.rest_is) left;
            gates = subst (Gates c (record core { appended = core.appended + 1 })) (sym gate_is) (after_item c core parts.gate at.gates item rest next both.1);
            required = at.required;
            end = end_is ∙ sym (ap end_in next.longer ∙ ap end_back (reverse-append (take core.appended (log_of c)) (item.item ∷ [])));
            sound = at.sound;
          };
          gate = gate_is;
          followers = refl;
        }

    -- the item is put back, and nothing else has changed
    same_run : (source : Source M) (hub : HubState) (gate : GateState) → hub ≡ parts.hub → gate ≡ parts.gate → StillToCome r source (item ∷ rest)
        → IsAt r f c core (record { source = source; hub = hub; followers = parts.followers; required = parts.required; gate = gate; end = parts.end })
    same_run source hub gate hub_is gate_is left = record {
      follows = subst (λ h. Follows f c core h parts.followers.items) (sym hub_is) at.follows;
      rest = subst (StillToCome r source) (sym first) left;
      gates = subst (Gates c core) (sym gate_is) at.gates;
      required = at.required;
      end = at.end;
      sound = at.sound;
    }

    -- some reader has a whole log still to take, or the gate is full
    no_room : (o : Option Full) → full_of parts.hub ≡ o → (not (is_some o) && not (is_some item.byte && is_full parts.gate)) ≡ false → HasNoRoom r f c core (length parts.gate.steps)
    no_room (Some full) here none =
        let one = named core.taken core.appended c.cap full (ap full_of (sym at.follows.stands) ∙ here) in
        inl (one.0, omega (arith, one.1.0, at.follows.sound.taken), one.1.1)
    no_room None here none =
        let both = and_parts (is_some item.byte) (is_full parts.gate) (not-false (is_some item.byte && is_full parts.gate) none) in
        inr (eqb-true (length parts.gate.steps) ROOM both.1, ap next_has_byte first ∙ both.0)

    pub waits : (source : Source M) (hub : HubState) (gate : GateState) → parts.hub.closed ≡ false → false ≡ has_room parts.hub parts.gate item → hub ≡ parts.hub → gate ≡ parts.gate → StillToCome r source (item ∷ rest)
        → HasWaited r f c core parts (record { source = source; hub = hub; followers = parts.followers; required = parts.required; gate = gate; end = parts.end })
    waits source hub gate opened none hub_is gate_is left = record {
      «open» = open_before opened;
      more = next.less;
      crowded = no_room (full_of parts.hub) refl (sym none);
      at = same_run source hub gate hub_is gate_is left;
      hub = hub_is;
      gate = gate_is;
      followers = refl;
    }

-- WHAT EACH TURN LEAVES

-- an append leaves each reader one record more
unread-more : (appended : ℕ) (taken : List ℕ) → sum_by (λ count. (appended + 1) - count) taken ≤ sum_by (λ count. appended - count) taken + length taken
unread-more appended [] = omega arith
unread-more appended (count ∷ taken) =
    omega (arith, unread-more appended taken, sum_by-cons (λ count. (appended + 1) - count) count taken, sum_by-cons (λ count. appended - count) count taken)

-- an issue lets at most one byte more wait
issue_more : (gate : GateState) (step byte : ℕ) → length (with_issue gate step byte).steps ≤ length gate.steps + 1
issue_more gate step byte = by (is_full gate) (is_withheld gate.from step)
  where
    by : (full withheld : Bool) → length (cond full gate (cond withheld (record gate { issued = gate.issued + 1; withheld = gate.withheld + 1; next = step + 1 }) (record gate { steps = gate.steps ++ step ∷ []; bytes = gate.bytes ++ byte ∷ []; issued = gate.issued + 1; next = step + 1 }))).steps ≤ length gate.steps + 1
    by true withheld = omega arith
    by false true = omega arith
    by false false = omega (arith, length_push gate.steps step)

item_more : (gate : GateState) (i : Item) → length (with_item gate i).steps ≤ length gate.steps + 1
item_more gate i = by i.byte
  where
    by : (o : Option ℕ) → length (with_byte gate (number i.item - 1) o).steps ≤ length gate.steps + 1
    by None = omega arith
    by (Some byte) = issue_more gate (number i.item - 1) byte

-- one item less to come pays for what it brings
pub lessens_append : (left left' : ℕ) (before hub : HubState) (gate gate' : GateState) (i : Item) → left' < left → before.closed ≡ false → true ≡ has_room before gate i → hub ≡ with_append before i.item → gate' ≡ with_item gate i
    → left' * (length hub.taken + 2) + cond hub.closed 0 1 + unread hub + length gate'.steps < left * (length before.taken + 2) + cond before.closed 0 1 + unread before + length gate.steps
lessens_append left left' before hub gate gate' i less opened room hub_is gate_is =
    let none = (rooms (full_of before) (is_some i.byte && is_full gate) room).0 in
    let taken : hub.taken ≡ before.taken = ap (λ (h : HubState). h.taken) hub_is in
    let closed : hub.closed ≡ before.closed = ap (λ (h : HubState). h.closed) hub_is in
    let appended : hub.appended ≡ before.appended + 1 = ap (λ (h : HubState). h.appended) hub_is ∙ ap (λ (o : Option Full). cond (is_some o) before.appended (before.appended + 1)) none in
    let more : unread hub ≤ unread before + length before.taken = subst (λ n. n ≤ unread before + length before.taken) (sym (λ i. sum_by (λ count. appended i - count) (taken i))) (unread-more before.appended before.taken) in
    let more_waits : length gate'.steps ≤ length gate.steps + 1 = subst (λ (g : GateState). length g.steps ≤ length gate.steps + 1) (sym gate_is) (item_more gate i) in
    let paid : (left' + 1) * (length before.taken + 2) ≤ left * (length before.taken + 2) = mul-le (left' + 1) (length before.taken + 2) left (length before.taken + 2) (omega (arith, less)) (omega arith) in
    let one : (left' + 1) * (length before.taken + 2) ≡ left' * (length before.taken + 2) + (length before.taken + 2) = grind arith in
    let same : left' * (length hub.taken + 2) ≡ left' * (length before.taken + 2) = ap (λ l. left' * (length l + 2)) taken in
    omega (arith, more, more_waits, paid, one, same, ap {B = ℕ} (λ b. cond b 0 1) closed)

-- the close is one turn less
pub lessens_close : (left left' : ℕ) (before hub : HubState) (waiting : ℕ) → left' ≤ left → before.closed ≡ false → hub ≡ with_close before
    → left' * (length hub.taken + 2) + cond hub.closed 0 1 + unread hub + waiting < left * (length before.taken + 2) + cond before.closed 0 1 + unread before + waiting
lessens_close left left' before hub waiting less opened hub_is =
    let taken : hub.taken ≡ before.taken = ap (λ (h : HubState). h.taken) hub_is in
    let same : unread hub ≡ unread before = ap unread hub_is in
    let closed : cond {A = ℕ} hub.closed 0 1 ≡ 0 = ap {B = ℕ} (λ (h : HubState). cond h.closed 0 1) hub_is in
    let was : cond {A = ℕ} before.closed 0 1 ≡ 1 = ap {B = ℕ} (λ b. cond b 0 1) opened in
    let paid : left' * (length hub.taken + 2) ≤ left * (length before.taken + 2) = mul-le left' (length hub.taken + 2) left (length before.taken + 2) less (omega (arith, ap length taken)) in
    omega (arith, same, closed, was, paid)

-- an item that is put back leaves all
pub lessens_none : (left left' : ℕ) (before hub : HubState) (gate gate' : GateState) → left' ≤ left → hub ≡ before → gate' ≡ gate
    → left' * (length hub.taken + 2) + cond hub.closed 0 1 + unread hub + length gate'.steps ≤ left * (length before.taken + 2) + cond before.closed 0 1 + unread before + length gate.steps
lessens_none left left' before hub gate gate' less same same_gate =
    let paid : left' * (length hub.taken + 2) ≤ left * (length before.taken + 2) = mul-le left' (length hub.taken + 2) left (length before.taken + 2) less (omega (arith, ap (λ (h : HubState). length h.taken) same)) in
    omega (arith, paid, ap unread same, ap {B = ℕ} (λ (h : HubState). cond h.closed 0 1) same, ap (λ (g : GateState). length g.steps) same_gate)
