-- Words that are read one after another are what the definition says they are.
use Rattle.std.proofs.Common.{◌≡◌, ℕ, zero, suc, ◌+◌, ◌<◌, ◌≤◌, ◌==◌, Bool, true, false, not, ◌&&◌, ◌||◌, if◌then◌else◌, List, [], ◌∷◌, ◌++◌, length, get_or, drop, map, String, Global, string_bytes, Option, Some, None, is_some, is_none, inl, inr, refl, sym, ◌∙◌, ap, subst, arith, append_assoc, append-nil, length-append}
use Rattle.std.proofs.lemmas.Bool.{and_parts, not_from_true, not_from_false, ltb-true, eqb-true, cases_Bool}
use Rattle.std.proofs.lemmas.List.{at_drop_more, drop_all, get_or-map}
use mathlib.Core.Path.{fun_ext}
use Rattle.command_words.specs.declared.draft.Draft.{Draft}
use Rattle.command_words.specs.declared.fault.WordsFault.{WordsFault}
use Rattle.command_words.specs.declared.fault.WordsFault.TheVariants.{Word, Missing}
use Rattle.command_words.specs.declared.table.CommandName.{CommandName}
use Rattle.command_words.specs.declared.table.CommandName.TheVariants.{Run, Record, Analyze, Show, Load}
use Rattle.command_words.specs.declared.table.Setting.{Setting}
use Rattle.command_words.specs.declared.table.Setting.TheVariants.{Disk, Mode, With, Require, Ram, Steps, Log, Threads, Turns}
use Rattle.command_words.specs.Table.{belongs, place, plain_count, setting_named}
use Rattle.command_words.specs.Values.{◌>>=◌, is_option, is_value}
use Rattle.command_words.specs.Roles.{Role, Plain, Naming, Value, roles, names, is_naming, has_name, found, plain_words, ends_open, option_of, may_stand, is_value_of, is_bad, number, first_bad}
use Rattle.command_words.specs.Drafts.{held, plain_held, Holds, ReadsOn, IsDraft, Refuses}

-- ---- what a word is

is_plain_word : (n : ℕ) (word : List ℕ) (words : List (List ℕ)) → is_option word ≡ false → roles n None (word ∷ words) ≡ Plain n word ∷ roles (n + 1) None words
unfolding roles
is_plain_word n word words e = rw e refl

is_naming_word : (n : ℕ) (word : List ℕ) (words : List (List ℕ)) → is_option word ≡ true → roles n None (word ∷ words) ≡ Naming n word ∷ roles (n + 1) (Some word) words
unfolding roles
is_naming_word n word words e = rw e refl

is_value_word : (n : ℕ) (name word : List ℕ) (words : List (List ℕ)) → roles n (Some name) (word ∷ words) ≡ Value n name word ∷ roles (n + 1) None words
unfolding roles
is_value_word n name word words = refl

none_left : (n : ℕ) (waiting : Option (List ℕ)) → roles n waiting [] ≡ []
unfolding roles
none_left n waiting = refl

-- ---- good words and bad ones

good_word : (command : CommandName) (before : List Role) (word : Role) (words : List Role) → is_bad command before word ≡ false → first_bad command before (word ∷ words) ≡ first_bad command (before ++ word ∷ []) words
unfolding first_bad
good_word command before word words e = rw e refl

bad_word : (command : CommandName) (before : List Role) (word : Role) (words : List Role) → is_bad command before word ≡ true → first_bad command before (word ∷ words) ≡ Some (number word)
unfolding first_bad
bad_word command before word words e = rw e refl

no_word : (command : CommandName) (before : List Role) → first_bad command before [] ≡ None
unfolding first_bad
no_word command before = refl

may_stand_below : (command : CommandName) (n : ℕ) (word : List ℕ) → may_stand command n word ≡ true → n < plain_count command
unfolding may_stand
may_stand_below command n word e = ltb-true n (plain_count command) (and_parts _ _ (and_parts _ _ e).0).0

plain_most : (command : CommandName) → plain_count command ≤ 3
plain_most Run = omega arith
plain_most Record = omega arith
plain_most Analyze = omega arith
plain_most Show = omega arith
plain_most Load = omega arith

pub plain_room : (command : CommandName) (n : ℕ) (word : List ℕ) → may_stand command n word ≡ true → n < 3
plain_room command n word e = let h = may_stand_below command n word e in let m = plain_most command in omega arith

not_true : (b : Bool) → not b ≡ true → b ≡ false
not_true true e = absurd (let h : false ≡ true = e in cc)
not_true false e = refl

known_by : (command : CommandName) (stood : Setting → Bool) (o : Option Setting) (setting : Setting) → (o >>= λ s. if belongs s command && not (stood s) then Some s else None) ≡ Some setting → (o ≡ Some setting) × (stood setting ≡ false)
known_by command stood None setting e = absurd (let h : Some setting ≡ None = sym e in cc)
known_by command stood (Some s) setting e =
    elim (cases_Bool (belongs s command && not (stood s))) [
      | inl may ↦
          let same : Some s ≡ Some setting = rw may at e in
          let equal : s ≡ setting = cc in
          (same, subst (λ (x : Setting). stood x ≡ false) equal (not_true (stood s) (and_parts (belongs s command) (not (stood s)) may).1))
      | inr may_not ↦ absurd (let h : None ≡ Some setting = rw may_not at e in let g : Some setting ≡ None = sym h in cc)
    ]

-- an option that may stand has not stood before
pub option_known : (command : CommandName) (stood : Setting → Bool) (word : List ℕ) (setting : Setting) → option_of command stood word ≡ Some setting → (setting_named word ≡ Some setting) × (stood setting ≡ false)
unfolding option_of
option_known command stood word setting e = known_by command stood (setting_named word) setting e

nothing : {A : Type 0} (o : Option A) → is_some o ≡ false → o ≡ None
nothing None e = refl
nothing (Some x) e = absurd (let h : true ≡ false = e in cc)

pub none_held : (command : CommandName) (old : Draft) (word : List ℕ) (setting : Setting) → option_of command (λ s. is_some (held old s)) word ≡ Some setting → held old setting ≡ None
none_held command old word setting known = nothing (held old setting) (option_known command (λ s. is_some (held old s)) word setting known).1

option_same : (command : CommandName) (stood others : Setting → Bool) (word : List ℕ) → ((setting : Setting) → stood setting ≡ others setting) → option_of command stood word ≡ option_of command others word
option_same command stood others word same = ap (λ (f : Setting → Bool). option_of command f word) (fun_ext same)

-- ---- what stands among words and others

abbrev or_else : Option (List ℕ × ℕ) → Option (List ℕ × ℕ) → Option (List ℕ × ℕ)
or_else None o = o
or_else (Some x) o = Some x

or_else_none : (o : Option (List ℕ × ℕ)) → or_else o None ≡ o
or_else_none None = refl
or_else_none (Some x) = refl

or_else_if : (t : Bool) (x : List ℕ × ℕ) (o p : Option (List ℕ × ℕ)) → (if t then Some x else or_else o p) ≡ or_else (if t then Some x else o) p
or_else_if true x o p = refl
or_else_if false x o p = refl

found-append : (words others : List Role) (setting : Setting) → found (words ++ others) setting ≡ or_else (found words setting) (found others setting)
found-append [] others setting = refl
found-append (Plain n word ∷ words) others setting = found-append words others setting
found-append (Naming n name ∷ words) others setting = found-append words others setting
found-append (Value n name value ∷ words) others setting =
    ap (λ (o : Option (List ℕ × ℕ)). if names setting name then Some (value, n) else o) (found-append words others setting) ∙ or_else_if (names setting name) (value, n) (found words setting) (found others setting)

plain_words-append : (words others : List Role) → plain_words (words ++ others) ≡ plain_words words ++ plain_words others
plain_words-append [] others = refl
plain_words-append (Plain n word ∷ words) others = ap (λ (t : List (List ℕ)). word ∷ t) (plain_words-append words others)
plain_words-append (Naming n name ∷ words) others = plain_words-append words others
plain_words-append (Value n name value ∷ words) others = plain_words-append words others

ends_open-append : (b : Bool) (words others : List Role) → ends_open b (words ++ others) ≡ ends_open (ends_open b words) others
ends_open-append b [] others = refl
ends_open-append b (Plain n word ∷ words) others = ends_open-append false words others
ends_open-append b (Naming n name ∷ words) others = ends_open-append true words others
ends_open-append b (Value n name value ∷ words) others = ends_open-append false words others

or_three : (a b c : Bool) → (a || (b || c)) ≡ ((a || b) || c)
or_three true b c = refl
or_three false b c = refl

or_false : (a : Bool) → (a || false) ≡ a
or_false true = refl
or_false false = refl

or_true : (a : Bool) → (a || true) ≡ true
or_true true = refl
or_true false = refl

has_name-append : (words others : List Role) (setting : Setting) → has_name (words ++ others) setting ≡ (has_name words setting || has_name others setting)
has_name-append [] others setting = refl
has_name-append (word ∷ words) others setting = ap (λ (b : Bool). is_naming setting word || b) (has_name-append words others setting) ∙ or_three (is_naming setting word) (has_name words setting) (has_name others setting)

setting_at : ℕ → Setting
setting_at zero = Disk
setting_at (suc zero) = Mode
setting_at (suc (suc zero)) = With
setting_at (suc (suc (suc zero))) = Require
setting_at (suc (suc (suc (suc zero)))) = Ram
setting_at (suc (suc (suc (suc (suc zero))))) = Steps
setting_at (suc (suc (suc (suc (suc (suc zero)))))) = Log
setting_at (suc (suc (suc (suc (suc (suc (suc zero))))))) = Threads
setting_at (suc (suc (suc (suc (suc (suc (suc (suc n)))))))) = Turns

setting_again : (setting : Setting) → setting_at (place setting) ≡ setting
unfolding setting_at
setting_again Disk = refl
setting_again Mode = refl
setting_again With = refl
setting_again Require = refl
setting_again Ram = refl
setting_again Steps = refl
setting_again Log = refl
setting_again Threads = refl
setting_again Turns = refl

same_place : (a b : Setting) → (place a == place b) ≡ true → a ≡ b
same_place a b e = sym (setting_again a) ∙ ap setting_at (eqb-true (place a) (place b) e) ∙ setting_again b

-- ---- what is kept of words and others

holds_plain : (words : List Role) (old new : Draft) (n : ℕ) (word : List ℕ) → Holds words old → plain_held new ≡ plain_held old ++ word ∷ [] → ((setting : Setting) → held new setting ≡ held old setting) → Holds (words ++ Plain n word ∷ []) new
holds_plain words old new n word holds plain values = record {
  values = λ s. values s ∙ holds.values s ∙ sym (found-append words (Plain n word ∷ []) s ∙ or_else_none (found words s));
  stood = λ s. ap is_some (values s) ∙ holds.stood s ∙ sym (has_name-append words (Plain n word ∷ []) s ∙ or_false (has_name words s));
  plain = plain ∙ ap (λ (t : List (List ℕ)). t ++ word ∷ []) holds.plain ∙ sym (plain_words-append words (Plain n word ∷ []));
  closed = ends_open-append false words (Plain n word ∷ []);
}

values_by : (t : Bool) (x : List ℕ × ℕ) (o : Option (List ℕ × ℕ)) → (t ≡ true → o ≡ None) → (if t then Some x else o) ≡ or_else o (if t then Some x else None)
values_by true x o none = rw (none refl) refl
values_by false x o none = sym (or_else_none o)

stood_by : (t : Bool) (x : List ℕ × ℕ) (o : Option (List ℕ × ℕ)) → is_some (if t then Some x else o) ≡ (is_some o || (t || false))
stood_by true x o = sym (or_true (is_some o))
stood_by false x o = sym (or_false (is_some o))

holds_option : (words : List Role) (old new : Draft) (n m : ℕ) (name value : List ℕ) (setting : Setting) → Holds words old → setting_named name ≡ Some setting → held old setting ≡ None → plain_held new ≡ plain_held old → ((other : Setting) → held new other ≡ (if place setting == place other then Some (value, m) else held old other)) → Holds (words ++ Naming n name ∷ Value m name value ∷ []) new
holds_option words old new n m name value setting holds known none plain values =
    let others = Naming n name ∷ Value m name value ∷ [] in
    let named : (s : Setting) → names s name ≡ (place setting == place s) = λ s. rw known refl in
    record {
      values = λ s.
          values s
          ∙ values_by (place setting == place s) (value, m) (held old s) (λ e. subst (λ (x : Setting). held old x ≡ None) (same_place setting s e) none)
          ∙ ap (λ (o : Option (List ℕ × ℕ)). or_else o (if place setting == place s then Some (value, m) else None)) (holds.values s)
          ∙ ap (λ (t : Bool). or_else (found words s) (if t then Some (value, m) else None)) (sym (named s))
          ∙ sym (found-append words others s);
      stood = λ s.
          ap is_some (values s)
          ∙ stood_by (place setting == place s) (value, m) (held old s)
          ∙ ap (λ (b : Bool). b || ((place setting == place s) || false)) (holds.stood s)
          ∙ ap (λ (t : Bool). has_name words s || (t || false)) (sym (named s))
          ∙ sym (has_name-append words others s);
      plain = plain ∙ holds.plain ∙ sym (plain_words-append words others ∙ append-nil (plain_words words));
      closed = ends_open-append false words others;
    }

-- ---- the next word

-- a word of the command line, as bytes
pub word_of : (strings : List (String Global)) (i : ℕ) (word : String Global) → i < length strings → word ≡ get_or strings i word → get_or (map string_bytes strings) i [] ≡ string_bytes word
word_of strings i word below at = get_or-map string_bytes strings i word [] below ∙ ap string_bytes (sym at)

drop_word : (words : List (List ℕ)) (i : ℕ) (word : List ℕ) → i < length words → get_or words i [] ≡ word → drop i words ≡ word ∷ drop (i + 1) words
drop_word words i word below at = at_drop_more (λ (t : List (List ℕ)). t) words i [] below ∙ ap (λ (w : List ℕ). w ∷ drop (i + 1) words) at

may_stand_after : (command : CommandName) (before : List Role) (old : Draft) (word : List ℕ) (t : Bool) → Holds before old → may_stand command (length (plain_held old)) word ≡ t → may_stand command (length (plain_words before)) word ≡ t
may_stand_after command before old word t holds e = ap (λ (p : List (List ℕ)). may_stand command (length p) word) (sym holds.plain) ∙ e

option_after : (command : CommandName) (before : List Role) (old : Draft) (word : List ℕ) (o : Option Setting) → Holds before old → option_of command (λ s. is_some (held old s)) word ≡ o → option_of command (has_name before) word ≡ o
option_after command before old word o holds e = option_same command (has_name before) (λ s. is_some (held old s)) word (λ s. sym (holds.stood s)) ∙ e

pub refuse_plain : (command : CommandName) (words : List (List ℕ)) (before : List Role) (i : ℕ) (old : Draft) (word : List ℕ) → i < length words → get_or words i [] ≡ word → is_option word ≡ false → Holds before old → may_stand command (length (plain_held old)) word ≡ false → first_bad command before (roles (i + 2) None (drop i words)) ≡ Some (i + 2)
refuse_plain command words before i old word below at plain holds may_not =
    let rest = roles (i + 2 + 1) None (drop (i + 1) words) in
    let whole : roles (i + 2) None (drop i words) ≡ Plain (i + 2) word ∷ rest = ap (roles (i + 2) None) (drop_word words i word below at) ∙ is_plain_word (i + 2) word (drop (i + 1) words) plain in
    ap (first_bad command before) whole ∙ bad_word command before (Plain (i + 2) word) rest (not_from_false _ (may_stand_after command before old word false holds may_not))

pub plain_next : (command : CommandName) (words : List (List ℕ)) (before : List Role) (i : ℕ) (old new : Draft) (word : List ℕ) → i < length words → get_or words i [] ≡ word → is_option word ≡ false → may_stand command (length (plain_held old)) word ≡ true → plain_held new ≡ plain_held old ++ word ∷ [] → ((setting : Setting) → held new setting ≡ held old setting) → Holds before old → ReadsOn command words before i (i + 1) new
plain_next command words before i old new word below at plain may kept values holds =
    let e : i + 2 + 1 ≡ i + 1 + 2 = omega arith in
    record {
      part = Plain (i + 2) word ∷ [];
      further = omega arith;
      within = omega arith;
      same = ap (roles (i + 2) None) (drop_word words i word below at) ∙ is_plain_word (i + 2) word (drop (i + 1) words) plain ∙ ap (λ (n : ℕ). Plain (i + 2) word ∷ roles n None (drop (i + 1) words)) e;
      good = λ later. good_word command before (Plain (i + 2) word) later (not_from_true _ (may_stand_after command before old word true holds may));
      holds = holds_plain before old new (i + 2) word holds kept values;
    }

naming_first : (words : List (List ℕ)) (i : ℕ) (word : List ℕ) → i < length words → get_or words i [] ≡ word → is_option word ≡ true → roles (i + 2) None (drop i words) ≡ Naming (i + 2) word ∷ roles (i + 2 + 1) (Some word) (drop (i + 1) words)
naming_first words i word below at option = ap (roles (i + 2) None) (drop_word words i word below at) ∙ is_naming_word (i + 2) word (drop (i + 1) words) option

pub refuse_option : (command : CommandName) (words : List (List ℕ)) (before : List Role) (i : ℕ) (old : Draft) (word : List ℕ) → i < length words → get_or words i [] ≡ word → is_option word ≡ true → Holds before old → option_of command (λ s. is_some (held old s)) word ≡ None → first_bad command before (roles (i + 2) None (drop i words)) ≡ Some (i + 2)
refuse_option command words before i old word below at option holds none =
    let unknown : is_bad command before (Naming (i + 2) word) ≡ true = ap is_none (option_after command before old word None holds none) in
    ap (first_bad command before) (naming_first words i word below at option) ∙ bad_word command before (Naming (i + 2) word) (roles (i + 2 + 1) (Some word) (drop (i + 1) words)) unknown

naming_good : (command : CommandName) (before : List Role) (n : ℕ) (old : Draft) (word : List ℕ) (setting : Setting) (later : List Role) → Holds before old → option_of command (λ s. is_some (held old s)) word ≡ Some setting → first_bad command before (Naming n word ∷ later) ≡ first_bad command (before ++ Naming n word ∷ []) later
naming_good command before n old word setting later holds known = good_word command before (Naming n word) later (ap is_none (option_after command before old word (Some setting) holds known))

pub refuse_open : (command : CommandName) (words : List (List ℕ)) (before : List Role) (i : ℕ) (old : Draft) (word : List ℕ) (setting : Setting) → i + 1 ≡ length words → get_or words i [] ≡ word → is_option word ≡ true → Holds before old → option_of command (λ s. is_some (held old s)) word ≡ Some setting → (first_bad command before (roles (i + 2) None (drop i words)) ≡ None) × (ends_open false (roles (i + 2) None (drop i words)) ≡ true)
refuse_open command words before i old word setting end at option holds known =
    let none : drop (i + 1) words ≡ [] = drop_all (i + 1) words (omega arith) in
    let whole : roles (i + 2) None (drop i words) ≡ Naming (i + 2) word ∷ [] = naming_first words i word (omega arith) at option ∙ ap (λ (t : List (List ℕ)). Naming (i + 2) word ∷ roles (i + 2 + 1) (Some word) t) none ∙ ap (λ (t : List Role). Naming (i + 2) word ∷ t) (none_left (i + 2 + 1) (Some word)) in
    (ap (first_bad command before) whole ∙ naming_good command before (i + 2) old word setting [] holds known ∙ no_word command (before ++ Naming (i + 2) word ∷ []), ap (ends_open false) whole)

value_first : (words : List (List ℕ)) (i : ℕ) (word value : List ℕ) → i + 1 < length words → get_or words i [] ≡ word → get_or words (i + 1) [] ≡ value → is_option word ≡ true → roles (i + 2) None (drop i words) ≡ Naming (i + 2) word ∷ Value (i + 2 + 1) word value ∷ roles (i + 2 + 1 + 1) None (drop (i + 1 + 1) words)
value_first words i word value below at next option =
    naming_first words i word (omega arith) at option
    ∙ ap (λ (t : List (List ℕ)). Naming (i + 2) word ∷ roles (i + 2 + 1) (Some word) t) (drop_word words (i + 1) value below next)
    ∙ ap (λ (t : List Role). Naming (i + 2) word ∷ t) (is_value_word (i + 2 + 1) word value (drop (i + 1 + 1) words))

pub refuse_value : (command : CommandName) (words : List (List ℕ)) (before : List Role) (i : ℕ) (old : Draft) (word value : List ℕ) (setting : Setting) → i + 1 < length words → get_or words i [] ≡ word → get_or words (i + 1) [] ≡ value → is_option word ≡ true → Holds before old → option_of command (λ s. is_some (held old s)) word ≡ Some setting → is_value setting value ≡ false → first_bad command before (roles (i + 2) None (drop i words)) ≡ Some (i + 2 + 1)
refuse_value command words before i old word value setting below at next option holds known bad =
    let rest = roles (i + 2 + 1 + 1) None (drop (i + 1 + 1) words) in
    let named = (option_known command (λ s. is_some (held old s)) word setting known).0 in
    let refused : is_bad command (before ++ Naming (i + 2) word ∷ []) (Value (i + 2 + 1) word value) ≡ true = ap (λ (o : Option Setting). not (is_value_of o value)) named ∙ ap not bad in
    ap (first_bad command before) (value_first words i word value below at next option)
    ∙ naming_good command before (i + 2) old word setting (Value (i + 2 + 1) word value ∷ rest) holds known
    ∙ bad_word command (before ++ Naming (i + 2) word ∷ []) (Value (i + 2 + 1) word value) rest refused

pub option_next : (command : CommandName) (words : List (List ℕ)) (before : List Role) (i : ℕ) (old new : Draft) (word value : List ℕ) (setting : Setting) → i + 1 < length words → get_or words i [] ≡ word → get_or words (i + 1) [] ≡ value → is_option word ≡ true → option_of command (λ s. is_some (held old s)) word ≡ Some setting → is_value setting value ≡ true → held old setting ≡ None → plain_held new ≡ plain_held old → ((other : Setting) → held new other ≡ (if place setting == place other then Some (value, i + 2 + 1) else held old other)) → Holds before old → ReadsOn command words before i (i + 2) new
option_next command words before i old new word value setting below at next option known good_value none kept values holds =
    let named = (option_known command (λ s. is_some (held old s)) word setting known).0 in
    let taken : is_bad command (before ++ Naming (i + 2) word ∷ []) (Value (i + 2 + 1) word value) ≡ false = ap (λ (o : Option Setting). not (is_value_of o value)) named ∙ ap not good_value in
    let e : i + 2 + 1 + 1 ≡ i + 2 + 2 = omega arith in
    let f : i + 1 + 1 ≡ i + 2 = omega arith in
    let pair = Naming (i + 2) word ∷ Value (i + 2 + 1) word value ∷ [] in
    record {
      part = pair;
      further = omega arith;
      within = omega arith;
      same = value_first words i word value below at next option ∙ ap (λ (n : ℕ). pair ++ roles n None (drop (i + 1 + 1) words)) e ∙ ap (λ (n : ℕ). pair ++ roles (i + 2 + 2) None (drop n words)) f;
      good = λ later.
          naming_good command before (i + 2) old word setting (Value (i + 2 + 1) word value ∷ later) holds known
          ∙ good_word command (before ++ Naming (i + 2) word ∷ []) (Value (i + 2 + 1) word value) later taken
          ∙ ap (λ (t : List Role). first_bad command t later) (append_assoc before (Naming (i + 2) word ∷ []) (Value (i + 2 + 1) word value ∷ []));
      holds = holds_option before old new (i + 2) (i + 2 + 1) word value setting holds named none kept values;
    }

-- ---- all words

-- the words up to an index were read, and none of them is bad
pub record HasRead (command : CommandName) (words : List (List ℕ)) (i : ℕ) (draft : Draft) : Type 0 where
  pub before : List Role
  pub same : roles 2 None words ≡ before ++ roles (i + 2) None (drop i words)
  pub good : (later : List Role) → first_bad command [] (before ++ later) ≡ first_bad command before later
  pub holds : Holds before draft

pub refused_more : (command : CommandName) (words : List (List ℕ)) (i : ℕ) (old : Draft) (fault : WordsFault) (read : HasRead command words i old) → Refuses command read.before (roles (i + 2) None (drop i words)) fault → Refuses command [] (roles 2 None words) fault
refused_more command words i old (Word n) read refused = ap (first_bad command []) read.same ∙ read.good (roles (i + 2) None (drop i words)) ∙ refused
refused_more command words i old Missing read refused = (
  ap (first_bad command []) read.same ∙ read.good (roles (i + 2) None (drop i words)) ∙ refused.0,
  ap (ends_open false) read.same ∙ ends_open-append false read.before (roles (i + 2) None (drop i words)) ∙ ap (λ (b : Bool). ends_open b (roles (i + 2) None (drop i words))) read.holds.closed ∙ refused.1,
)

pub has_read_all : (command : CommandName) (words : List (List ℕ)) (i : ℕ) (draft : Draft) → length words ≤ i → HasRead command words i draft → IsDraft command (roles 2 None words) draft
has_read_all command words i draft over read =
    let none : roles (i + 2) None (drop i words) ≡ [] = ap (roles (i + 2) None) (drop_all i words over) ∙ none_left (i + 2) None in
    let whole : roles 2 None words ≡ read.before = read.same ∙ ap (λ (t : List Role). read.before ++ t) none ∙ append-nil read.before in
    record {
      good = ap (first_bad command []) (read.same ∙ ap (λ (t : List Role). read.before ++ t) none) ∙ read.good [] ∙ no_word command read.before;
      holds = subst (λ (t : List Role). Holds t draft) (sym whole) read.holds;
    }

not_false : (b : Bool) → not b ≡ false → b ≡ true
not_false true e = refl
not_false false e = absurd (let h : true ≡ false = e in cc)

one_more : (command : CommandName) (before : List Role) (word : Role) → length (plain_words before) ≤ plain_count command → is_bad command before word ≡ false → length (plain_words (before ++ word ∷ [])) ≤ plain_count command
one_more command before (Plain n word) within fine =
    let below = may_stand_below command (length (plain_words before)) word (not_false _ fine) in
    rw (plain_words-append before (Plain n word ∷ [])) (omega (arith, length-append (plain_words before) (word ∷ [])))
one_more command before (Naming n name) within fine = rw (plain_words-append before (Naming n name ∷ []), append-nil (plain_words before)) within
one_more command before (Value n name value) within fine = rw (plain_words-append before (Value n name value ∷ []), append-nil (plain_words before)) within

plain_within : (command : CommandName) (before words : List Role) → length (plain_words before) ≤ plain_count command → first_bad command before words ≡ None → length (plain_words (before ++ words)) ≤ plain_count command
plain_within command before [] within good = rw (append-nil before) within
plain_within command before (word ∷ words) within good =
    elim (cases_Bool (is_bad command before word)) [
      | inl bad ↦ absurd (let h : Some (number word) ≡ None = sym (bad_word command before word words bad) ∙ good in cc)
      | inr fine ↦
          let later : first_bad command (before ++ word ∷ []) words ≡ None = sym (good_word command before word words fine) ∙ good in
          let whole : length (plain_words ((before ++ word ∷ []) ++ words)) ≤ plain_count command = plain_within command (before ++ word ∷ []) words (one_more command before word within fine) later in
          rw (append_assoc before (word ∷ []) words) at whole
    ]

-- where no word is bad, there are no plain words too many
pub plain_few : (command : CommandName) (words : List Role) → first_bad command [] words ≡ None → length (plain_words words) ≤ plain_count command
plain_few command words good = plain_within command [] words (omega arith) good
