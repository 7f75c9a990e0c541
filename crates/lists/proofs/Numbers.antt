-- Numbers in a row, and what is made of each.
use mathlib.Core.Path.{◌≡◌, refl, sym, ap, ◌∙◌}
use mathlib.Core.List.{map}
use Prim.Native.Nat.{ℕ, zero, suc, ◌+◌, ◌-◌, ◌≤◌, ◌<◌}
use native.Mathlib.Nat.{add-zero}
use native.Mathlib.Decide.{ℕ_discrete}
use native.Mathlib.Omega.{arith}
use lib.ListN.{length, get_or, drop, length-map}
use Rattle.lists.specs.Lists.{occurrences, numbers_from}
use Rattle.lists.proofs.All.{All, all_map}
use Rattle.lists.proofs.Occurrences.{occurrences_here, occurrences_past, none_occurs}

pub numbers_length : (i n : ℕ) → length (numbers_from i n) ≡ n
unfolding numbers_from
numbers_length i zero = refl
numbers_length i (suc n) = ap suc (numbers_length (suc i) n)

pub numbers_at : (i n c z : ℕ) → c < n → get_or (numbers_from i n) c z ≡ i + c
unfolding numbers_from
numbers_at i zero c z h = absurd (omega arith)
numbers_at i (suc n) zero z h = sym (add-zero i)
numbers_at i (suc n) (suc c) z h = numbers_at (suc i) n c z (omega arith) ∙ omega arith

-- what is made of number c of n numbers from 0 on
pub made_at : {A : Type 0} (f : ℕ → A) (i n c : ℕ) (z : A) → c < n → get_or (map f (numbers_from i n)) c z ≡ f (i + c)
unfolding numbers_from
made_at f i zero c z h = absurd (omega arith)
made_at f i (suc n) zero z h = ap f (sym (add-zero i))
made_at f i (suc n) (suc c) z h = made_at f (suc i) n c z (omega arith) ∙ ap f (omega arith)

pub made_length : {A : Type 0} (f : ℕ → A) (i n : ℕ) → length (map f (numbers_from i n)) ≡ n
made_length f i n = length-map (numbers_from i n) f ∙ numbers_length i n

pub made_rest : {A : Type 0} (f : ℕ → A) (i n : ℕ) → drop 1 (map f (numbers_from i n)) ≡ map f (numbers_from (suc i) (n - 1))
unfolding numbers_from
made_rest f i zero = refl
made_rest f i (suc n) = let e : n ≡ suc n - 1 = omega arith in ap (λ m. map f (numbers_from (suc i) m)) e

-- n numbers from i on are those from i to i + n - 1, each once
pub numbers_range : (i n : ℕ) → All (λ c. (i ≤ c) × (c < i + n)) (numbers_from i n)
unfolding numbers_from
numbers_range i zero = tt
numbers_range i (suc n) = (omega arith, all_map (λ c h. let low = h.0 in let high = h.1 in omega arith) (numbers_from (suc i) n) (numbers_range (suc i) n))

pub numbers_once : (c i n : ℕ) → i ≤ c → c < i + n → occurrences c (numbers_from i n) ≡ 1
unfolding numbers_from
numbers_once c i zero low high = absurd (omega arith)
numbers_once c i (suc n) low high = at_test (ℕ_discrete i c) (numbers_once c (suc i) n)
  where
    at_test : Dec (i ≡ c) → (suc i ≤ c → c < suc i + n → occurrences c (numbers_from (suc i) n) ≡ 1) → occurrences c (numbers_from i (suc n)) ≡ 1
    at_test (yes e) ih =
        occurrences_here c i (numbers_from (suc i) n) e
        ∙ ap suc (none_occurs c (numbers_from (suc i) n) (all_map (λ x h q. let above = h.0 in omega arith) (numbers_from (suc i) n) (numbers_range (suc i) n)))
    at_test (no ne) ih = occurrences_past c i (numbers_from (suc i) n) ne ∙ ih (omega arith) (omega arith)
