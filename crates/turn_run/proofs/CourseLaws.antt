-- What is true of each course.
use Rattle.std.proofs.Common.{◌≡◌, ℕ, ◌+◌, ◌<◌, ◌≤◌, List, [], ◌∷◌, ◌++◌, length, take, drop, Some, sym, ap, ◌∙◌, arith, take-append-drop}
use Rattle.std.specs.Prelude.{slice_get, option_map}
use Rattle.std.specs.List.{cons_option}
use Rattle.std.proofs.lemmas.List.{length-map, length-drop, take_all, drop-drop}
use Rattle.std.proofs.lemmas.List.Elements.{All-get_or, filter_map-append}
use Rattle.std.proofs.lemmas.Option.{slice_get_within, slice_get-map}
use Rattle.list_laws.specs.Prefix.{IsPrefix}
use Rattle.list_laws.proofs.PlaceLaws.{all-at, dropped-at}
use Rattle.list_laws.proofs.PrefixLaws.{take-next}
use Rattle.run_events.specs.declared.item.Item.{Item}
use Rattle.run_events.specs.Record.{IsRecord, number, reach}
use Rattle.run_events.proofs.RecordLaws.{reach_push}
use Rattle.any_machine.specs.Log.{byte_of, bytes_of, steps_of}
use Rattle.gate_core.specs.Core.{IsPlan, StepsRise, reached}
use Rattle.gate_core.proofs.CoreLaws.{reach_rises}
use Rattle.output_gate.specs.Gate.{Climbs}
use Rattle.output_gate.proofs.GateLaws.{Climbs-wider, Climbs-at}
use Rattle.turn_run.specs.Course.{Course, IsCourse, IsMarked, log_of, output_of, plan_of, end_of}
use Rattle.turn_run.specs.Gates.{issued_by}

rises_of : (low high : ℕ) (steps : List ℕ) → Climbs low steps high → StepsRise low steps
rises_of low high [] climbs = tt
rises_of low high (step ∷ steps) climbs = (climbs.0, rises_of step high steps (Climbs-wider steps (step + 1) step high high (omega arith) (omega arith) climbs.1))

-- the next item of a run of which so many were appended
pub record IsNext (c : Course) (a : ℕ) (i : Item) (rest : List Item) : Type 0 where
  pub less : a < length c.items
  pub at : slice_get (log_of c) a ≡ Some i.item
  pub longer : take (a + 1) (log_of c) ≡ take a (log_of c) ++ i.item ∷ []
  pub is_record : IsRecord i.item
  pub marked : IsMarked i
  pub rest_is : drop (a + 1) c.items ≡ rest
  pub reaches : reached (plan_of c) (a + 1) ≡ number i.item
  pub issued : issued_by c (a + 1) ≡ issued_by c a ++ cons_option (byte_of i) []

module _ (c : Course) (is : IsCourse c) where
  pub is_plan : IsPlan (plan_of c)
  is_plan = record {
    items = is.ordered;
    rises = rises_of 0 (end_of c) (steps_of (output_of c)) is.climbs;
    within = λ byte less. Climbs-at (steps_of (output_of c)) 0 (end_of c) byte is.climbs less;
    required = λ place less. All-get_or (λ reader. reader < length c.limits) c.required place 0 less is.required;
  }

  pub length_log : length (log_of c) ≡ length c.items
  length_log = length-map c.items (λ (i : Item). i.item)

  pub reach_less : (k j : ℕ) → k ≤ j → reached (plan_of c) k ≤ reached (plan_of c) j
  reach_less k j le = reach_rises (log_of c) is.ordered k j le

  pub reach_within : (k : ℕ) → reached (plan_of c) k ≤ end_of c
  reach_within k =
      let whole : take (k + length (log_of c)) (log_of c) ≡ log_of c = take_all (k + length (log_of c)) (log_of c) (omega arith) in
      omega (arith, reach_less k (k + length (log_of c)) (omega arith), ap reach whole)

  pub reach_whole : (k : ℕ) → length c.items ≤ k → reached (plan_of c) k ≡ end_of c
  reach_whole k le = ap reach (take_all k (log_of c) (omega (arith, length_log, le)))

  pub no_item_left : (a : ℕ) → drop a c.items ≡ [] → length c.items ≤ a
  no_item_left a none = omega (arith, ap length none, length-drop a c.items)

  pub next_item : (a : ℕ) (i : Item) (rest : List Item) → drop a c.items ≡ i ∷ rest → IsNext c a i rest
  next_item a i rest here =
      let item_at : slice_get c.items a ≡ Some i = dropped-at a c.items i rest here in
      let at : slice_get (log_of c) a ≡ Some i.item = slice_get-map (λ (i : Item). i.item) c.items a ∙ ap (option_map (λ (i : Item). i.item)) item_at in
      let longer : take (a + 1) (log_of c) ≡ take a (log_of c) ++ i.item ∷ [] = take-next a (log_of c) i.item at in
      record {
        less = slice_get_within c.items a i item_at;
        at = at;
        longer = longer;
        is_record = all-at IsRecord a (log_of c) i.item is.records at;
        marked = all-at IsMarked a c.items i is.marked item_at;
        rest_is = sym (drop-drop 1 a c.items) ∙ ap (drop 1) here;
        reaches = ap reach longer ∙ reach_push (take a (log_of c)) i.item;
        issued = ap bytes_of (take-next a c.items i item_at) ∙ filter_map-append byte_of (take a c.items) (i ∷ []);
      }

  -- what was issued is a prefix of the output
  pub issued_IsPrefix : (a : ℕ) → IsPrefix (issued_by c a) (output_of c)
  issued_IsPrefix a = record {
    rest = bytes_of (drop a c.items);
    joined = sym (filter_map-append byte_of (take a c.items) (drop a c.items)) ∙ ap bytes_of (take-append-drop a c.items);
  }

  pub issued_all : (a : ℕ) → length c.items ≤ a → issued_by c a ≡ output_of c
  issued_all a le = ap bytes_of (take_all a c.items le)
