-- What is held once a record is taken, held against the list with that record.
use Rattle.std.proofs.Common.{◌≡◌, ℕ, suc, ◌<◌, List, [], ◌∷◌, ◌++◌, Some, refl, sym, ap, ◌∙◌, subst, arith, append_assoc, unwrap_or}
use Rattle.std.specs.Option.{option_or}
use Rattle.std.proofs.lemmas.Bool.Decides.{nat_tests}
use Rattle.run_events.specs.declared.record.Record.{Record}
use Rattle.run_events.specs.declared.record.Record.TheVariants.{Load, Lines, Dma, Reach, End}
use Rattle.run_events.specs.declared.supply.DmaWord.{DmaWord}
use Rattle.run_events.specs.Record.{number}
use Rattle.any_machine.specs.Machine.{Machine, touched, writes_of}
use Rattle.any_machine.specs.Run.{events_of}
use Rattle.any_machine.specs.Tape.{bits_told, load_told, words_told, words_at, tape_of}
use Rattle.any_machine.specs.Replay.{state_at, turns_below, shown_on}
use Rattle.any_machine.specs.Held.{Held, held_with, word_shown, IsAt}
use Rattle.any_machine.proofs.LookUpLaws.{tape_more}
use Rattle.any_machine.proofs.TapeLaws.{AgreeBelow, state_at-same, turns_below-same, power_at-same, last_power-same, load_fault_at-same}

-- words after words
pub touched-append : {S : Type 0} (m : Machine S) (s : S) (words more : List DmaWord) → touched m s (words ++ more) ≡ touched m (touched m s words) more
touched-append m s [] more = refl
touched-append m s (word ∷ words) more = touched-append m (m.touch s word).1 words more

pub writes_of-append : {S : Type 0} (m : Machine S) (s : S) (words more : List DmaWord) → writes_of m s (words ++ more) ≡ writes_of m s words ++ writes_of m (touched m s words) more
writes_of-append m s [] more = refl
writes_of-append m s (word ∷ words) more = ap (λ l. (m.touch s word).0 ∷ l) (writes_of-append m (m.touch s word).1 words more)

module _ {S : Type 0} (m : Machine S) where
  -- what a record tells of the step of its own number is what is held with it
  record IsTold (item : Record) (h : Held S) (n : ℕ) : Type 0 where
    state : touched m h.state (words_told n item) ≡ (held_with m item h).state
    shown : writes_of m h.state (words_told n item) ≡ word_shown m item h
    lines : unwrap_or (bits_told n item) h.lines ≡ (held_with m item h).lines
    load : option_or (load_told n item) h.load ≡ (held_with m item h).load
    power : h.power ≡ (held_with m item h).power
    step : h.step ≡ (held_with m item h).step

  told : (item : Record) (h : Held S) → IsTold item h (number item)
  told (Load n value mark) h = record { state = refl; shown = refl; lines = refl; load = ap (λ o. option_or o h.load) (own_load n value mark); power = refl; step = refl }
    where
      own_load : (n value mark : ℕ) → load_told n (Load n value mark) ≡ Some (record { value = value; mark = mark })
      own_load n value mark = grind (arith, nat_tests)
  told (Lines n bits) h = record { state = refl; shown = refl; lines = ap (λ o. unwrap_or o h.lines) (own_bits n bits); load = refl; power = refl; step = refl }
    where
      own_bits : (n bits : ℕ) → bits_told n (Lines n bits) ≡ Some bits
      own_bits n bits = grind (arith, nat_tests)
  told (Dma n address word mark) h = record { state = ap (touched m h.state) (own_words n address word mark); shown = ap (writes_of m h.state) (own_words n address word mark); lines = refl; load = refl; power = refl; step = refl }
    where
      own_words : (n address word mark : ℕ) → words_told n (Dma n address word mark) ≡ record { address = address; word = word; mark = mark } ∷ []
      own_words n address word mark = grind (arith, nat_tests)
  told (Reach n) h = record { state = refl; shown = refl; lines = refl; load = refl; power = refl; step = refl }
  told (End n cause) h = record { state = refl; shown = refl; lines = refl; load = refl; power = refl; step = refl }

module _ {S : Type 0} (m : Machine S) (start : S) (before : List Record) (item : Record) where
  -- what is held with a record whose number is that of the step to come
  pub record TakesRecord (h : Held S) : Type 0 where
    pub at : IsAt m start (tape_of (item ∷ before)) (held_with m item h)
    pub step : h.step ≡ (held_with m item h).step
    pub shown : shown_on m start (tape_of (item ∷ before)) h.step ≡ shown_on m start (tape_of before) h.step ++ word_shown m item h

  agree : (n : ℕ) → n ≡ number item → AgreeBelow n (tape_of (item ∷ before)) (tape_of before)
  agree n is = λ k lt. tape_more k item before (omega (arith, is, lt))

  pub takes_record : (h : Held S) → IsAt m start (tape_of before) h → h.step ≡ number item → TakesRecord h
  takes_record h at is =
      let n = h.step in
      let tape = tape_of before in
      let tape' = tape_of (item ∷ before) in
      let same = agree n is in
      let below : (k : ℕ) → k < n → AgreeBelow (suc k) tape' tape = λ k lt. λ j low. same j (omega (arith, lt, low)) in
      let is_told = subst (IsTold m item h) (sym is) (told m item h) in
      let states = state_at-same m start n tape' tape same in
      let state : touched m (state_at m start tape' n) (tape' n).words ≡ (held_with m item h).state =
      ap (λ s. touched m s (tape' n).words) states ∙ touched-append m (state_at m start tape n) (words_at before n) (words_told n item) ∙ ap (λ s. touched m s (words_told n item)) (sym at.state) ∙ is_told.state
      in
      let writes : writes_of m (state_at m start tape' n) (tape' n).words ≡ writes_of m (state_at m start tape n) (tape n).words ++ word_shown m item h =
      ap (λ s. writes_of m s (tape' n).words) states ∙ writes_of-append m (state_at m start tape n) (words_at before n) (words_told n item)
      ∙ ap (λ s. writes_of m (state_at m start tape n) (tape n).words ++ writes_of m s (words_told n item)) (sym at.state) ∙ ap (λ l. writes_of m (state_at m start tape n) (tape n).words ++ l) is_told.shown
      in
      let events = events_of (turns_below m start tape n) in
      record {
        step = is_told.step;
        shown =
            ap (λ turns. events_of turns ++ writes_of m (state_at m start tape' n) (tape' n).words) (turns_below-same m start n tape' tape same)
            ∙ ap (λ l. events ++ l) writes ∙ sym (append_assoc events (writes_of m (state_at m start tape n) (tape n).words) (word_shown m item h));
        at = subst_step is_told.step (record {
          state = sym state;
          lines = sym is_told.lines ∙ ap (unwrap_or (bits_told n item)) at.lines;
          load = sym is_told.load ∙ ap (option_or (load_told n item)) at.load;
          power = sym is_told.power ∙ at.power ∙ sym (last_power-same m start n tape' tape same);
          supplied = λ k lt. load_fault_at-same m start k tape' tape (below k lt) ∙ at.supplied k lt;
          quiet = λ k lt. power_at-same m start k tape' tape (below k (omega (arith, lt))) ∙ at.quiet k lt;
        });
      }
    where
      subst_step : h.step ≡ (held_with m item h).step → IsAt m start (tape_of (item ∷ before)) (record (held_with m item h) { step = h.step }) → IsAt m start (tape_of (item ∷ before)) (held_with m item h)
      subst_step step at' = subst (λ k. IsAt m start (tape_of (item ∷ before)) (record (held_with m item h) { step = k })) step at'
