-- Every job that words are is sound.
use Rattle.memory_map.specs.declared.TheConstants.{MOST_STEPS}
use Rattle.std.proofs.Common.{◌≡◌, ℕ, ◌<◌, ◌==◌, nat_lt, Bool, true, false, not, ◌||◌, if◌then◌else◌, List, [], ◌∷◌, length, codes, get_or, Option, Some, None, unwrap_or, Result, Ok, Err, IfOk, inl, inr, refl, sym, ◌∙◌, ap, subst, arith}
use lib.Count.{ones}
use Rattle.std.specs.Int.{is_power_of_two}
use Rattle.std.specs.List.{All, Contains, list_all}
use Rattle.std.specs.Option.{option_map_or}
use Rattle.std.specs.Result.{result_ok}
use Rattle.std.specs.Str.{bytes_eq}
use Rattle.std.proofs.lemmas.Bool.{and_parts, or_parts, ltb-false, cases_Bool}
use Rattle.std.proofs.lemmas.List.Elements.{All-nil, All-cons, All-contains_itself}
use Rattle.format_model.specs.ScriptReading.{is_number, leads_with_zero, value_of, number_at}
use Rattle.format_model.specs.ScriptReading as script
use Rattle.run_events.specs.declared.finding.Kind.{Kind}
use Rattle.run_settings.specs.Kinds.{EachOnce, are_once, has_kind}
use Rattle.run_settings.specs.Patterns.{IsPattern, is_pattern}
use Rattle.run_settings.proofs.KindLaws.{tells_kind, tells_once}
use Rattle.run_settings.proofs.PatternLaws.{plain_pattern, tells_pattern}
use Rattle.command_words.specs.declared.fault.WordsFault.{WordsFault}
use Rattle.command_words.specs.declared.fault.WordsFault.TheVariants.{Word, Missing}
use Rattle.command_words.specs.declared.table.CommandName.{CommandName}
use Rattle.command_words.specs.declared.table.CommandName.TheVariants as command
use Rattle.command_words.specs.declared.table.Setting.TheVariants.{With, Require, Ram, Steps, Log, Threads, Turns}
use Rattle.command_words.specs.Table.{command_named}
use Rattle.command_words.specs.Values.{◌>>=◌, all_named, kind_named, kinds, kinds_in, number_in, onto_first, parts_of, required_in, log_in, ram_in, steps_in, threads_in}
use Rattle.command_words.specs.Roles.{Role, first_bad, found, plain_words, roles}
use Rattle.command_words.specs.Jobs.{Job, Run, Record, Analyze, Show, Load, Values, value_or, is_best, chosen, named_required, threads, turns, ram, steps, log, word_if, crossed_required, crossed_turns, run_job, run_of, job_of, is_short, read_as, job_in, record_job, analyze_job, load_job}
use Rattle.command_words.specs.declared.command.Command.{Command}
use Rattle.command_words.specs.Says.{GivesJob, says}
use Rattle.command_words.specs.Sound.{IsBetween, IsLogSize, AreChosen, IsSoundRun, IsSoundJob}
use Rattle.command_words.specs.declared.value.TheConstants.{LEAST_LOG, MOST_LOG, MOST_THREADS}

-- ---- what is read of a value

-- what holds of what stands where there is no value, and of all that is read, holds
value_or_is : {A : Type 0} (P : A → Type 0) (default : A) (read : List ℕ → Option A) → P default → ((text : List ℕ) (x : A) → read text ≡ Some x → P x) → (given : Option (List ℕ × ℕ)) → P (value_or default read given)
value_or_is P default read first each None = first
value_or_is {A} P default read first each (Some given) = by_read (read given.0) refl
  where
    by_read : (o : Option A) → read given.0 ≡ o → P (unwrap_or o default)
    by_read None e = first
    by_read (Some x) e = each given.0 x e

in_range : (least most : ℕ) (digits : List ℕ) (n : ℕ) (out : Bool) → (leads_with_zero digits || (nat_lt (value_of digits) least || nat_lt most (value_of digits))) ≡ out → result_ok (if out then Err script.BadNumber else Ok (value_of digits)) ≡ Some n → IsBetween least most n
in_range least most digits n true e h = absurd (let g : Some n ≡ None = sym h in cc)
in_range least most digits n false e h =
    let value : value_of digits ≡ n = (let g : Some (value_of digits) ≡ Some n = h in cc) in
    let ends = or_parts (nat_lt (value_of digits) least) (nat_lt most (value_of digits)) (or_parts (leads_with_zero digits) (nat_lt (value_of digits) least || nat_lt most (value_of digits)) e).1 in
    let low = ltb-false (value_of digits) least ends.0 in
    let high = ltb-false most (value_of digits) ends.1 in
    (omega arith, omega arith)

by_number : (least most : ℕ) (digits : List ℕ) (n : ℕ) (t : Bool) → result_ok (if t then script.number_in least most digits else Err script.BadLine) ≡ Some n → IsBetween least most n
unfolding script.number_in
by_number least most digits n false h = absurd (let g : Some n ≡ None = sym h in cc)
by_number least most digits n true h = in_range least most digits n _ refl h

number_between : (least most : ℕ) (text : List ℕ) (n : ℕ) → number_in least most text ≡ Some n → IsBetween least most n
unfolding number_at
number_between least most text n h = by_number least most text n (is_number text) h

-- what passed a test is what was tested
kept_by : {A : Type 0} (test : A → Bool) (o : Option A) (x : A) → (o >>= λ y. if test y then Some y else None) ≡ Some x → (o ≡ Some x) × (test x ≡ true)
kept_by test None x h = absurd (let g : Some x ≡ None = sym h in cc)
kept_by test (Some y) x h =
    elim (cases_Bool (test y)) [
      | inl passed ↦
          let same : Some y ≡ Some x = rw passed at h in
          let equal : y ≡ x = cc in
          (same, ap test (sym equal) ∙ passed)
      | inr failed ↦ absurd (let e : None ≡ Some x = rw failed at h in let g : Some x ≡ None = sym e in cc)
    ]

log_between : (text : List ℕ) (n : ℕ) → log_in text ≡ Some n → IsLogSize n
unfolding log_in
log_between text n h =
    let kept = kept_by is_power_of_two (number_in LEAST_LOG MOST_LOG text) n h in
    (number_between LEAST_LOG MOST_LOG text n kept.0, kept.1)

parts_some : (text : List ℕ) → 0 < length (parts_of text)
unfolding parts_of
parts_some [] = omega arith
parts_some (b ∷ bs) = by_comma (b == 44) (parts_of bs) (parts_some bs)
  where
    onto_some : (texts : List (List ℕ)) → 0 < length texts → 0 < length (onto_first b texts)
    onto_some [] h = absurd (omega arith)
    onto_some (text ∷ texts) h = omega arith

    by_comma : (t : Bool) (texts : List (List ℕ)) → 0 < length texts → 0 < length (if t then [] ∷ texts else onto_first b texts)
    by_comma true texts h = omega arith
    by_comma false texts h = onto_some texts h

named_some : (texts : List (List ℕ)) (named : List Kind) → 0 < length texts → all_named texts ≡ Some named → 0 < length named
unfolding all_named
named_some [] named some h = absurd (omega arith)
named_some (text ∷ texts) named some h = by_first (kind_named text) (all_named texts) h
  where
    by_first : (o : Option Kind) (others : Option (List Kind)) → (o >>= λ kind. others >>= λ rest. Some (kind ∷ rest)) ≡ Some named → 0 < length named
    by_first None others e = absurd (let g : Some named ≡ None = sym e in cc)
    by_first (Some kind) None e = absurd (let g : Some named ≡ None = sym e in cc)
    by_first (Some kind) (Some rest) e = let same : kind ∷ rest ≡ named = (let g : Some (kind ∷ rest) ≡ Some named = e in cc) in subst (λ (k : List Kind). 0 < length k) same (omega arith)

kinds_chosen : (text : List ℕ) (named : List Kind) → kinds_in text ≡ Some named → AreChosen named
unfolding kinds_in
kinds_chosen text named h =
    let kept = kept_by are_once (all_named (parts_of text)) named h in
    (named_some (parts_of text) named (parts_some text) kept.0, (tells_once named).0 kept.1)

all_chosen : AreChosen kinds
unfolding are_once
all_chosen = (omega arith, (tells_once kinds).0 refl)

required_once : (text : List ℕ) (named : List Kind) → required_in text ≡ Some named → EachOnce named
unfolding required_in
required_once text named h = by_none (bytes_eq text (codes "none")) h
  where
    by_none : (t : Bool) → (if t then Some [] else kinds_in text) ≡ Some named → EachOnce named
    by_none true e = let same : [] ≡ named = (let g : Some [] ≡ Some named = e in cc) in subst EachOnce same tt
    by_none false e = (kinds_chosen text named e).1

-- ---- words that go together

or_refused : (o : Option ℕ) (rest : Result Job WordsFault) (job : Job) → option_map_or (λ n. Err (Word n)) o rest ≡ Ok job → (o ≡ None) × (rest ≡ Ok job)
or_refused None rest job h = (refl, h)
or_refused (Some n) rest job h = absurd (cc h)

uncrossed : (crossed : Bool) (given : List ℕ × ℕ) → word_if crossed (Some given) ≡ None → crossed ≡ false
uncrossed true given h = absurd (let g : Some given.1 ≡ None = h in cc)
uncrossed false given h = refl

not_false : (b : Bool) → not b ≡ false → b ≡ true
not_false true e = refl
not_false false e = absurd (let h : true ≡ false = e in cc)

among : (kinds others : List Kind) → list_all (has_kind others) kinds ≡ true → All (Contains others) kinds
among [] others h = All-nil (Contains others)
among (kind ∷ kinds) others h =
    let parts = and_parts (has_kind others kind) (list_all (has_kind others) kinds) h in
    All-cons (Contains others) kind kinds ((tells_kind others kind).0 parts.0) (among kinds others parts.1)

required_part : (values : Values) (o : Option (List ℕ × ℕ)) → values Require ≡ o → word_if (crossed_required values) o ≡ None → All (Contains (chosen values)) (named_required values)
unfolding crossed_required
required_part values None e h = rw e (All-contains_itself (chosen values))
required_part values (Some given) e h =
    among (named_required values) (chosen values) (not_false _ (or_parts (is_best values) (not (list_all (has_kind (chosen values)) (named_required values))) (uncrossed (is_best values || not (list_all (has_kind (chosen values)) (named_required values))) given h)).1)

required_among : (values : Values) (b : Bool) → All (Contains (chosen values)) (named_required values) → All (Contains (chosen values)) (if b then [] else named_required values)
required_among values true h = All-nil (Contains (chosen values))
required_among values false h = h

once_if : (b : Bool) (kinds : List Kind) → EachOnce kinds → EachOnce (if b then [] else kinds)
once_if true kinds h = tt
once_if false kinds h = h

turns_pattern : (values : Values) (o : Option (List ℕ × ℕ)) → values Turns ≡ o → word_if (crossed_turns values) o ≡ None → IsPattern (length (chosen values)) (turns values)
unfolding crossed_turns
turns_pattern values None e h = rw e (plain_pattern (length (chosen values)))
turns_pattern values (Some given) e h =
    (tells_pattern (length (chosen values)) (turns values)).0 (not_false _ (or_parts (nat_lt 0 (threads values)) (not (is_pattern (length (chosen values)) (turns values))) (uncrossed (nat_lt 0 (threads values) || not (is_pattern (length (chosen values)) (turns values))) given h)).1)

-- ---- jobs

chosen_sound : (values : Values) → AreChosen (chosen values)
chosen_sound values = value_or_is AreChosen kinds kinds_in all_chosen kinds_chosen (values With)

ram_sound : (values : Values) → IsBetween 64 16384 (ram values)
ram_sound values = value_or_is (IsBetween 64 16384) 1024 ram_in (omega arith, omega arith) (number_between 64 16384) (values Ram)

steps_sound : (values : Values) → IsBetween 1 MOST_STEPS (steps values)
steps_sound values = value_or_is (IsBetween 1 MOST_STEPS) 10000000 steps_in (omega arith, omega arith) (number_between 1 MOST_STEPS) (values Steps)

log_sound : (values : Values) → IsLogSize (log values)
unfolding ones
log_sound values = value_or_is IsLogSize 1024 log_in ((omega arith, omega arith), refl) log_between (values Log)

threads_sound : (values : Values) → IsBetween 0 MOST_THREADS (threads values)
threads_sound values = value_or_is (IsBetween 0 8) 0 threads_in (omega arith, omega arith) (number_between 0 8) (values Threads)

same_job : (a b : Job) → (let r : Result Job WordsFault = Ok a in r) ≡ Ok b → a ≡ b
same_job a b h = cc

run_sound : (values : Values) (words : List (List ℕ)) (job : Job) → run_of values words ≡ Ok job → IsSoundJob job
unfolding run_of
run_sound values words job h =
    let first = or_refused (word_if (crossed_required values) (values Require)) _ job h in
    let second = or_refused (word_if (crossed_turns values) (values Turns)) (Ok (Run (run_job values words))) job first.1 in
    let same : Run (run_job values words) ≡ job = same_job (Run (run_job values words)) job second.1 in
    let sound : IsSoundRun (run_job values words) = record {
      ram = ram_sound values;
      limit = steps_sound values;
      log = log_sound values;
      chosen = chosen_sound values;
      required = required_among values (is_best values) (required_part values (values Require) refl first.0);
      required_once = once_if (is_best values) (named_required values) (value_or_is EachOnce (chosen values) required_in (chosen_sound values).1 required_once (values Require));
      threads = (threads_sound values).1;
      turns = turns_pattern values (values Turns) refl second.0;
    } in
    subst IsSoundJob same sound

size_sound : (o : Option ℕ) → ((n : ℕ) → o ≡ Some n → IsBetween 1 100000 n) → IsBetween 1 100000 (unwrap_or o 1)
size_sound None h = (omega arith, omega arith)
size_sound (Some n) h = h n refl

job_sound : (command : CommandName) (values : Values) (words : List (List ℕ)) (job : Job) → job_of command values words ≡ Ok job → IsSoundJob job
unfolding job_of
job_sound command.Run values words job h = run_sound values words job h
job_sound command.Record values words job h = subst IsSoundJob (same_job (Record (record_job values words)) job h) (ram_sound values, steps_sound values)
job_sound command.Analyze values words job h = subst IsSoundJob (same_job (Analyze (analyze_job values words)) job h) (chosen_sound values)
job_sound command.Show values words job h = subst IsSoundJob (same_job (Show (get_or words 0 [])) job h) tt
job_sound command.Load values words job h = subst IsSoundJob (same_job (Load (load_job values words)) job h) (size_sound _ (number_between 1 100000 (get_or words 1 [])), log_sound values, (threads_sound values).1)

unshort : (short : Bool) (rest : Result Job WordsFault) (job : Job) → (if short then Err Missing else rest) ≡ Ok job → rest ≡ Ok job
unshort true rest job h = absurd (cc h)
unshort false rest job h = h

read_sound : (command : CommandName) (words : List Role) (job : Job) → read_as command words ≡ Ok job → IsSoundJob job
unfolding read_as
read_sound command words job h = job_sound command (found words) (plain_words words) job (unshort (is_short command words) _ job (or_refused (first_bad command [] words) _ job h).1)

by_name : (o : Option CommandName) (words : List Role) (job : Job) → option_map_or (λ command. read_as command words) o (Err (Word 1)) ≡ Ok job → IsSoundJob job
by_name None words job h = absurd (cc h)
by_name (Some command) words job h = read_sound command words job h

pub sound_in : (words : List (List ℕ)) (job : Job) → job_in words ≡ Ok job → IsSoundJob job
unfolding job_in
sound_in [] job h = absurd (cc h)
sound_in (word ∷ words) job h = by_name (command_named word) (roles 2 None words) job h

-- what was answered is sound
pub sound_of : (words : List (List ℕ)) (r : Result Command WordsFault) → GivesJob r (job_in words) → IfOk r (λ command. IsSoundJob (says command))
sound_of words (Ok c) h = sound_in words (says c) h
sound_of words (Err fault) h = tt
