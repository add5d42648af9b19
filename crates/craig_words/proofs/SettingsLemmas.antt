-- What the values of all names set, where the pieces have different names that are known.
use Rattle.std.proofs.Common.{◌≡◌, ◌∙◌, ℕ, Bool, cond, true, false, not, ◌&&◌, List, [], ◌∷◌, Option, Some, None, codes, refl, sym, ap, subst, inl, inr}
use Rattle.std.proofs.lemmas.Bool.{and_parts, or_cases}
use Rattle.std.proofs.Math.Bool.{or-false}
use Rattle.std.specs.List.{list_all}
use Rattle.std.specs.Prelude.{option_and_then}
use Rattle.std.specs.Option.{option_map, option_map_or, is_some}
use Rattle.std.specs.Str.{bytes_eq}
use Rattle.clap.specs.Words.{first_value, found_of}
use Rattle.clap.specs.declared.parser.matches.ArgMatches.{ArgMatches}
use Rattle.craig_script.specs.Reading.{system_named, format_named}
use Rattle.craig_words.specs.CommandLine.{Piece, are_different, has_name, is_allowed, limit_named, set_by, settings_of, steps_named, value_of, words_read}
use Rattle.craig_words.specs.ClapCommand.{HasPieces, given, given_settings, is_known}
use Rattle.craig_words.specs.declared.words.Words.{Words}
use Rattle.craig_words.proofs.PieceLemmas.{false_of_not, or_false, same_bytes}

-- a value is read, or there is none
abbrev is_good : {A : Type 0} → (List ℕ → Option A) → Option (List ℕ) → Bool
is_good read = λ value. option_map_or (λ text. is_some (read text)) value true

-- the values of all names are read
abbrev are_good : List Piece → Bool
are_good pieces =
    is_good system_named (value_of (codes "system") pieces) && is_good format_named (value_of (codes "format") pieces)
    && is_good limit_named (value_of (codes "limit") pieces) && is_good steps_named (value_of (codes "gen") pieces)

-- ---- each piece is allowed where the values of all names are read

-- no value of a name that no piece has
pub absent : (name : List ℕ) (pieces : List Piece) → has_name name pieces ≡ false → value_of name pieces ≡ None
absent name [] e = refl
absent name (piece ∷ pieces) e =
    let parts = or_false (bytes_eq piece.name name) (has_name name pieces) e in
    rw parts.0 (absent name pieces parts.1)

-- one more test, among four: in the first place
first : (a f l g : Bool) → (a && (true && f && l && g)) ≡ (a && f && l && g)
first true f l g = refl
first false f l g = refl

-- in the second place
second : (a s l g : Bool) → (a && (s && true && l && g)) ≡ (s && a && l && g)
second true true l g = refl
second true false l g = refl
second false true l g = refl
second false false l g = refl

-- in the third place
third : (a s f g : Bool) → (a && (s && f && true && g)) ≡ (s && f && a && g)
third true true true g = refl
third true true false g = refl
third true false f g = refl
third false true true g = refl
third false true false g = refl
third false false f g = refl

-- in the fourth place
fourth : (a s f l : Bool) → (a && (s && f && l && true)) ≡ (s && f && l && a)
fourth true true true true = refl
fourth true true true false = refl
fourth true true false l = refl
fourth true false f l = refl
fourth false true true true = refl
fourth false true true false = refl
fourth false true false l = refl
fourth false false f l = refl

-- one more piece, by its name
abbrev Goes : Piece → List Piece → Type 0
Goes piece pieces = has_name piece.name pieces ≡ false → list_all is_allowed pieces ≡ are_good pieces → list_all is_allowed (piece ∷ pieces) ≡ are_good (piece ∷ pieces)

-- of a system
system_goes : (value : List ℕ) (pieces : List Piece) → Goes (record { name = codes "system"; value = value }) pieces
system_goes value pieces new rest =
    ap (λ b. is_some (system_named value) && b) (rest ∙ ap (λ o. is_good system_named o && is_good format_named (value_of (codes "format") pieces)
    && is_good limit_named (value_of (codes "limit") pieces) && is_good steps_named (value_of (codes "gen") pieces)) (absent (codes "system") pieces new))
    ∙ first (is_some (system_named value)) (is_good format_named (value_of (codes "format") pieces)) (is_good limit_named (value_of (codes "limit") pieces)) (is_good steps_named (value_of (codes "gen") pieces))

-- of a format
format_goes : (value : List ℕ) (pieces : List Piece) → Goes (record { name = codes "format"; value = value }) pieces
format_goes value pieces new rest =
    ap (λ b. is_some (format_named value) && b) (rest ∙ ap (λ o. is_good system_named (value_of (codes "system") pieces) && is_good format_named o
    && is_good limit_named (value_of (codes "limit") pieces) && is_good steps_named (value_of (codes "gen") pieces)) (absent (codes "format") pieces new))
    ∙ second (is_some (format_named value)) (is_good system_named (value_of (codes "system") pieces)) (is_good limit_named (value_of (codes "limit") pieces)) (is_good steps_named (value_of (codes "gen") pieces))

-- of a limit
limit_goes : (value : List ℕ) (pieces : List Piece) → Goes (record { name = codes "limit"; value = value }) pieces
limit_goes value pieces new rest =
    ap (λ b. is_some (limit_named value) && b) (rest ∙ ap (λ o. is_good system_named (value_of (codes "system") pieces) && is_good format_named (value_of (codes "format") pieces)
    && is_good limit_named o && is_good steps_named (value_of (codes "gen") pieces)) (absent (codes "limit") pieces new))
    ∙ third (is_some (limit_named value)) (is_good system_named (value_of (codes "system") pieces)) (is_good format_named (value_of (codes "format") pieces)) (is_good steps_named (value_of (codes "gen") pieces))

-- of a number of steps
steps_goes : (value : List ℕ) (pieces : List Piece) → Goes (record { name = codes "gen"; value = value }) pieces
steps_goes value pieces new rest =
    ap (λ b. is_some (steps_named value) && b) (rest ∙ ap (λ o. is_good system_named (value_of (codes "system") pieces) && is_good format_named (value_of (codes "format") pieces)
    && is_good limit_named (value_of (codes "limit") pieces) && is_good steps_named o) (absent (codes "gen") pieces new))
    ∙ fourth (is_some (steps_named value)) (is_good system_named (value_of (codes "system") pieces)) (is_good format_named (value_of (codes "format") pieces)) (is_good limit_named (value_of (codes "limit") pieces))

-- of any name that is known
known_goes : (name value : List ℕ) (pieces : List Piece) → is_known name ≡ true → Goes (record { name = name; value = value }) pieces
known_goes name value pieces known =
    let P : List ℕ → Type 0 = λ n. Goes (record { name = n; value = value }) pieces in
    elim (or_cases (bytes_eq (codes "system") name) _ known) [
      | inl is ↦ subst P (same_bytes (codes "system") name is) (system_goes value pieces)
      | inr other ↦ elim (or_cases (bytes_eq (codes "format") name) _ other) [
        | inl is ↦ subst P (same_bytes (codes "format") name is) (format_goes value pieces)
        | inr one ↦ elim (or_cases (bytes_eq (codes "limit") name) _ one) [
          | inl is ↦ subst P (same_bytes (codes "limit") name is) (limit_goes value pieces)
          | inr last ↦ subst P (same_bytes (codes "gen") name (sym (or-false (bytes_eq (codes "gen") name)) ∙ last)) (steps_goes value pieces)
        ]
      ]
    ]

-- each piece is allowed where the values of all names are read
all_allowed : (pieces : List Piece) → are_different pieces ≡ true → list_all (λ piece. is_known piece.name) pieces ≡ true → list_all is_allowed pieces ≡ are_good pieces
all_allowed [] d k = refl
all_allowed (piece ∷ pieces) d k =
    let different = and_parts (not (has_name piece.name pieces)) (are_different pieces) d in
    let known = and_parts (is_known piece.name) (list_all (λ p. is_known p.name) pieces) k in
    known_goes piece.name piece.value pieces known.0 (false_of_not (has_name piece.name pieces) different.0) (all_allowed pieces different.1 known.1)

-- ---- the values as settings

-- a value is given where it is read, or there is none
given_is : {A : Type 0} (read : List ℕ → Option A) (value : Option (List ℕ)) → given read value ≡ cond (is_good read value) (Some (option_and_then read value)) None
given_is {A} read None = refl
given_is {A} read (Some text) = go (read text)
  where
    go : (r : Option A) → option_map (λ x. Some x) r ≡ cond (is_some r) (Some r) None
    go None = refl
    go (Some x) = refl

-- four choices, one behind the other
four_given : {A B C D E : Type 0} (make : A → B → C → D → E) (x : A) (y : B) (z : C) (w : D) (a b c d : Bool)
    → option_and_then (λ p. option_and_then (λ q. option_and_then (λ r. option_map (λ s. make p q r s) (cond d (Some w) None)) (cond c (Some z) None)) (cond b (Some y) None)) (cond a (Some x) None)
    ≡ cond (a && b && c && d) (Some (make x y z w)) None
four_given make x y z w false b c d = refl
four_given make x y z w true false c d = refl
four_given make x y z w true true false d = refl
four_given make x y z w true true true false = refl
four_given make x y z w true true true true = refl

-- all values as they are given are what the pieces set
settings_given : (pieces : List Piece) → are_different pieces ≡ true → list_all (λ piece. is_known piece.name) pieces ≡ true
    → given_settings (λ name. value_of name pieces) ≡ settings_of pieces
settings_given pieces d k =
    rw (given_is system_named (value_of (codes "system") pieces), given_is format_named (value_of (codes "format") pieces), given_is limit_named (value_of (codes "limit") pieces), given_is steps_named (value_of (codes "gen") pieces))
    (four_given (λ system format limit steps. let made : Words = record { system = system; format = format; limit = limit; steps = steps } in made)
    (option_and_then system_named (value_of (codes "system") pieces)) (option_and_then format_named (value_of (codes "format") pieces))
    (option_and_then limit_named (value_of (codes "limit") pieces)) (option_and_then steps_named (value_of (codes "gen") pieces))
    (is_good system_named (value_of (codes "system") pieces)) (is_good format_named (value_of (codes "format") pieces))
    (is_good limit_named (value_of (codes "limit") pieces)) (is_good steps_named (value_of (codes "gen") pieces))
    ∙ ap (λ b. cond b (Some (set_by pieces)) None) (sym (all_allowed pieces d k))
    ∙ ap (λ b. cond (b && list_all is_allowed pieces) (Some (set_by pieces)) None) (sym d))

-- what the matches set is what the words are read as
pub settings_read : (words : List (List ℕ)) (matches : ArgMatches) → HasPieces words matches → given_settings (first_value (found_of matches)) ≡ words_read words
settings_read words matches h =
    let same : first_value (found_of matches) ≡ (λ name. value_of name h.pieces) = λ i name. h.values name i in
    ap given_settings same ∙ settings_given h.pieces h.different h.known ∙ ap (option_and_then settings_of) (sym h.are_those)
