-- The words of a batch as calls: three words at a time.
use mathlib.Core.Path.{◌≡◌, refl, sym, ap}
use mathlib.Core.Bool.{Bool, true, false, ◌&&◌, and-false}
use mathlib.Core.List.{List, [], ◌∷◌, map}
use Prim.Native.Nat.{ℕ, suc, ◌+◌, ◌*◌, ◌/◌, ◌%◌, ◌≤◌, ◌<◌}
use native.Mathlib.Omega.{arith}
use lib.ListN.{length, get_or, drop, drop_of_length-le}
use lib.Seq.{drop-cons}
use Rattle.std.specs.List.{list_all}
use Rattle.std.specs.Simd.{first_chunks}
use Rattle.answers.specs.declared.Operation.{Operation}
use Rattle.calls.specs.Batch.{is_kind, operation_of, are_calls, calls_in, fits}

-- the three words of each call
abbrev pub whole : List ℕ → List (List ℕ)
whole words = first_chunks 3 (length words / 3) words

whole_more : (kind key value : ℕ) (words : List ℕ) → whole (kind ∷ key ∷ value ∷ words) ≡ (kind ∷ key ∷ value ∷ []) ∷ whole words
whole_more kind key value words =
    let more : suc (suc (suc (length words))) / 3 ≡ suc (length words / 3) = omega arith in
    rw more refl

-- of a call by its words: whether its kind is one, and what it is
abbrev pub has_kind : List ℕ → Bool
has_kind call = is_kind (get_or call 0 0)

abbrev pub call_of : List ℕ → Operation
call_of call = operation_of (get_or call 0 0) (get_or call 1 0) (get_or call 2 0)

pub all_kinds : (words : List ℕ) → length words % 3 ≡ 0 → list_all has_kind (whole words) ≡ are_calls words
unfolding are_calls
all_kinds [] e = refl
all_kinds (kind ∷ []) e = absurd (omega arith)
all_kinds (kind ∷ key ∷ []) e = absurd (omega arith)
all_kinds (kind ∷ key ∷ value ∷ words) e =
    rw (whole_more kind key value words) (ap (λ t. is_kind kind && t) (all_kinds words (omega arith)))

pub some_left : (words : List ℕ) → (length words % 3 ≡ 0 → ⊥) → false ≡ are_calls words
unfolding are_calls
some_left [] ne = absurd (ne refl)
some_left (kind ∷ []) ne = refl
some_left (kind ∷ key ∷ []) ne = refl
some_left (kind ∷ key ∷ value ∷ words) ne = rw (← some_left words (λ e. ne (omega arith))) (sym (and-false (is_kind kind)))

pub calls_are : (words : List ℕ) → map call_of (whole words) ≡ calls_in words
unfolding calls_in
calls_are [] = refl
calls_are (kind ∷ []) = refl
calls_are (kind ∷ key ∷ []) = refl
calls_are (kind ∷ key ∷ value ∷ words) = rw (whole_more kind key value words) (ap (λ (l : List Operation). operation_of kind key value ∷ l) (calls_are words))

-- from call to call
pub next_call : (calls : List (List ℕ)) (i : ℕ) → i < length calls → map call_of (drop i calls) ≡ call_of (get_or calls i []) ∷ map call_of (drop (i + 1) calls)
next_call calls i h = let next : i + 1 ≡ suc i = omega arith in rw (next, drop-cons calls i [] h) refl

pub no_call : (calls : List (List ℕ)) (i : ℕ) → length calls ≤ i → map call_of (drop i calls) ≡ []
no_call calls i h = rw (drop_of_length-le calls h) refl

pub calls_length : (words : List ℕ) → length (calls_in words) ≡ length words / 3
unfolding calls_in
calls_length [] = refl
calls_length (kind ∷ []) = refl
calls_length (kind ∷ key ∷ []) = refl
calls_length (kind ∷ key ∷ value ∷ words) = let more = calls_length words in omega arith

-- what follows where the calls fit
pub fits_room : (calls answers : List ℕ) → fits calls answers ≡ true → (4 * (length calls / 3) ≤ length answers) × (length calls / 3 ≤ 4294967295)
unfolding fits
fits_room calls answers e = (grind (arith, calls_length), grind (arith, calls_length))
