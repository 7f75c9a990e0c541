-- The counts of all classes add up to the number of live keys: a key of a list is of one of the sixteen classes, and counts there once.
use mathlib.Core.Path.{◌≡◌, refl, sym, ap, ap₂, ◌∙◌}
use mathlib.Core.Bool.{true}
use mathlib.Core.List.{List, [], ◌∷◌, map}
use Prim.Native.Nat.{ℕ, zero, suc, ◌+◌, ◌≤◌, ◌<◌}
use native.Mathlib.Omega.{arith}
use lib.ListN.{length, get_or, length-map}
use Rattle.lists.specs.Lists.{those, numbers_from}
use Rattle.lists.proofs.All.{All, all_map}
use Rattle.lists.proofs.Those.{those_keep}
use Rattle.meaning.specs.Row.{Node}
use Rattle.meaning.specs.Reading.{read, is_list}
use Rattle.meaning.proofs.Outcomes.{on_read_lists}
use Rattle.calls.specs.Pairs.{pair}
use Rattle.classes.specs.Classes.{class_of, number_of_classes, live_keys, keys_in, classes_in, count_at}
use Rattle.classes.proofs.Classes.{count_word, other_class, own_class}
use Rattle.counted.specs.Promises.{sum_of, counts_in, ClassesTotal}

-- the counts of n classes from i on
counts : List ℕ → ℕ → ℕ → List ℕ
counts keys i n = map (λ class. length (keys_in class keys)) (numbers_from i n)

-- one key more counts in its class and in no other
counts_past : (key : ℕ) (keys : List ℕ) (i n : ℕ) → class_of key < i → counts (key ∷ keys) i n ≡ counts keys i n
unfolding counts numbers_from
counts_past key keys i zero h = refl
counts_past key keys i (suc n) h =
    ap₂ {C = List ℕ} (λ ks ns. length ks ∷ ns) (other_class key keys i (λ e. omega arith)) (counts_past key keys (suc i) n (omega arith))

sum_more : (key : ℕ) (keys : List ℕ) (i n d : ℕ) → class_of key ≡ i + d → d < n → sum_of (counts (key ∷ keys) i n) ≡ suc (sum_of (counts keys i n))
unfolding counts numbers_from sum_of
sum_more key keys i zero d e h = absurd (omega arith)
sum_more key keys i (suc n) zero e h =
    ap₂ (λ ks ns. length ks + sum_of ns) (own_class key keys i (omega arith)) (counts_past key keys (suc i) n (omega arith)) ∙ omega arith
sum_more key keys i (suc n) (suc d) e h =
    omega (arith, ap length (other_class key keys i (λ f. omega arith)), sum_more key keys (suc i) n d (omega arith) (omega arith))

sum_none : (i n : ℕ) → sum_of (counts [] i n) ≡ 0
unfolding counts numbers_from sum_of those
sum_none i zero = refl
sum_none i (suc n) = omega (arith, sum_none (suc i) n)

sum_all : (keys : List ℕ) → All (λ key. class_of key < number_of_classes) keys → sum_of (counts keys 0 number_of_classes) ≡ length keys
sum_all [] all = sum_none 0 number_of_classes
sum_all (key ∷ keys) all =
    sum_more key keys 0 number_of_classes (class_of key) (omega arith) all.0 ∙ ap suc (sum_all keys all.1)

-- the counts in the record are those
counts_from : (keys : List ℕ) (i n : ℕ) → i + n ≤ number_of_classes →
    map (λ class. get_or (classes_in keys) (count_at class) 0) (numbers_from i n) ≡ map (λ class. length (keys_in class keys)) (numbers_from i n)
unfolding numbers_from
counts_from keys i zero h = refl
counts_from keys i (suc n) h =
    ap₂ {C = List ℕ} (λ m ns. m ∷ ns) (count_word keys i (omega arith)) (counts_from keys (suc i) n (omega arith))

counts_are : (keys : List ℕ) → counts_in (classes_in keys) ≡ counts keys 0 number_of_classes
unfolding counts
counts_are keys = counts_from keys 0 number_of_classes (omega arith)

-- every live key of a list is of a class
keys_below : (row : List Node) → All (λ x. x.key ≤ 4294967295) row → All (λ key. class_of key < number_of_classes) (map (λ x. x.key) row)
keys_below [] all = tt
keys_below (x ∷ row) all = (let h = all.0 in omega arith, keys_below row all.1)

row_below : (ws : List ℕ) → is_list ws ≡ true → All (λ x. x.key ≤ 4294967295) (read ws).row
row_below =
    on_read_lists (λ s ws. All (λ x. x.key ≤ 4294967295) s.row) (λ s v. all_map (λ x h. omega (arith, v.ranges.largest_most)) s.row v.keys)

pub classes_total : ClassesTotal
classes_total ws list =
    let lives = those (λ x. x.live) (read ws).row in
    ap sum_of (counts_are (live_keys ws))
    ∙ sum_all (live_keys ws) (keys_below lives (those_keep (λ x. x.key ≤ 4294967295) (λ x. x.live) (read ws).row (row_below ws list)))
    ∙ length-map lives (λ x. x.key)
    ∙ sym (length-map lives pair)
