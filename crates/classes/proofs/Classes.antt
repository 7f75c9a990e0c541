-- The words of the record: where those of each class stand, what one key more makes of them, and that the order of the keys does not matter.
use mathlib.Core.Path.{◌≡◌, refl, sym, ap, ap₂, ◌∙◌}
use mathlib.Core.Bool.{Bool, true, false, cond, ◌&&◌}
use mathlib.Core.List.{List, [], ◌∷◌, ◌++◌, map, flat_map}
use Prim.Native.Nat.{ℕ, zero, suc, ◌+◌, ◌*◌, ◌≤◌, ◌<◌}
use native.Mathlib.Decide.{ℕ_discrete, dec_le}
use native.Mathlib.Omega.{arith}
use lib.Dec.{eqb, leb}
use lib.ListN.{length, get_or, set, replicate}
use borrow.Author.Tests.{eq-eqb, ne_eqb, le-leb, lt-leb}
use Rattle.std.specs.Cmp.Lexicographic.{pointwise}
use Rattle.lists.specs.Lists.{those, numbers_from, same}
use Rattle.lists.proofs.Blocks.{blocks_length, block_word}
use Rattle.lists.proofs.Numbers.{numbers_length, numbers_at}
use Rattle.lists.proofs.Same.{same_eq}
use Rattle.meaning.specs.Row.{Node, put}
use Rattle.meaning.proofs.Cells.Folded.{put_folded}
use Rattle.classes.specs.Classes.{class_of, number_of_classes, record_words, live_keys_in, live_keys, keys_in, lesser, least_of, class_words, classes_in, count_at, least_at}
use Rattle.classes.specs.Classes.{classes_of, agrees}
use Rattle.classes.specs.Tallying.{with_key_in, with_key}

-- The lesser of two keys

-- by what is known of the two
lesser_none : (other : ℕ) → lesser 0 other ≡ other
unfolding lesser
lesser_none other = refl

pub lesser_alone : (one : ℕ) → lesser one 0 ≡ one
unfolding lesser
lesser_alone one = at (ℕ_discrete one 0)
  where
    at : Dec (one ≡ 0) → lesser one 0 ≡ one
    at (yes e) = rw (eq-eqb one 0 e) (sym e)
    at (no ne) = rw (ne_eqb one 0 ne) refl

pub lesser_first : (one other : ℕ) → 0 < one → one ≤ other → lesser one other ≡ one
unfolding lesser
lesser_first one other h l = rw (ne_eqb one 0 (λ e. omega arith), ne_eqb other 0 (λ e. omega arith), le-leb one other l) refl

lesser_second : (one other : ℕ) → 0 < other → other ≤ one → lesser one other ≡ other
unfolding lesser
lesser_second one other h l =
    rw (ne_eqb one 0 (λ e. omega arith), ne_eqb other 0 (λ e. omega arith)) (at (dec_le one other))
  where
    at : Dec (one ≤ other) → cond (leb one other) one other ≡ other
    at (yes e) = rw (le-leb one other e) (omega arith)
    at (no ne) = rw (lt-leb one other (omega arith)) refl

lesser_most : (one other : ℕ) → 0 < one → 0 < other → (0 < lesser one other) × (lesser one other ≤ other)
lesser_most one other h l = at (dec_le one other)
  where
    at : Dec (one ≤ other) → (0 < lesser one other) × (lesser one other ≤ other)
    at (yes e) = rw (lesser_first one other h e) (h, e)
    at (no ne) = rw (lesser_second one other l (omega arith)) (l, omega arith)

-- of two keys the order does not matter, whatever a third is
lesser_ordered : (a b n : ℕ) → 0 < a → a ≤ b → lesser a (lesser b n) ≡ lesser b (lesser a n)
lesser_ordered a b n h l = at (ℕ_discrete n 0) (dec_le b n)
  where
    at : Dec (n ≡ 0) → Dec (b ≤ n) → lesser a (lesser b n) ≡ lesser b (lesser a n)
    at (yes z) d = rw (z, lesser_alone b, lesser_alone a, lesser_first a b h l) (sym (lesser_second b a h l))
    at (no z) (yes e) = rw (lesser_first b n (omega arith) e, lesser_first a b h l, lesser_first a n h (omega arith)) (sym (lesser_second b a h l))
    at (no z) (no ne) =
        let m = lesser_most a n h (omega arith) in
        ap (lesser a) (lesser_second b n (omega arith) (omega arith)) ∙ sym (lesser_second b (lesser a n) m.0 (omega (arith, m.1)))

lesser_swap : (a b n : ℕ) → lesser a (lesser b n) ≡ lesser b (lesser a n)
lesser_swap a b n = at (ℕ_discrete a 0) (ℕ_discrete b 0) (dec_le a b)
  where
    at : Dec (a ≡ 0) → Dec (b ≡ 0) → Dec (a ≤ b) → lesser a (lesser b n) ≡ lesser b (lesser a n)
    at (yes z) d e = ap (λ k. lesser k (lesser b n)) z ∙ lesser_none (lesser b n) ∙ ap (lesser b) (sym (lesser_none n)) ∙ ap (λ k. lesser b (lesser k n)) (sym z)
    at (no z) (yes d) e = ap (λ k. lesser a (lesser k n)) d ∙ ap (lesser a) (lesser_none n) ∙ sym (lesser_none (lesser a n)) ∙ ap (λ k. lesser k (lesser a n)) (sym d)
    at (no z) (no d) (yes e) = lesser_ordered a b n (omega arith) e
    at (no z) (no d) (no e) = sym (lesser_ordered b a n (omega arith) (omega arith))

-- The words of each class

pub classes_length : (keys : List ℕ) → length (classes_in keys) ≡ record_words
unfolding classes_in numbers_from
classes_length keys = blocks_length (λ class. class_words (keys_in class keys)) 2 (λ class. refl) (numbers_from 0 number_of_classes)

word_of_lem : (keys : List ℕ) (class j : ℕ) → class < number_of_classes → j < 2 → get_or (classes_in keys) (class * 2 + j) 0 ≡ get_or (class_words (keys_in class keys)) j 0
unfolding classes_in
word_of_lem keys class j h l =
    block_word (λ c. class_words (keys_in c keys)) 2 (λ c. refl) (numbers_from 0 number_of_classes) class j 0
    (omega (arith, numbers_length 0 number_of_classes)) l
    ∙ ap (λ c. get_or (class_words (keys_in c keys)) j 0) (numbers_at 0 number_of_classes class 0 h ∙ omega arith)

pub count_word : (keys : List ℕ) (class : ℕ) → class < number_of_classes → get_or (classes_in keys) (count_at class) 0 ≡ length (keys_in class keys)
count_word keys class h = ap (λ i. get_or (classes_in keys) i 0) (omega arith) ∙ word_of_lem keys class 0 h (omega arith)

pub least_word : (keys : List ℕ) (class : ℕ) → class < number_of_classes → get_or (classes_in keys) (least_at class) 0 ≡ least_of (keys_in class keys)
least_word keys class h = word_of_lem keys class 1 h (omega arith)

pub no_keys : classes_in [] ≡ replicate record_words 0
unfolding classes_in numbers_from flat_map those least_of
no_keys = refl

-- Comparing

-- `==` of words is the definition's `same`
pub words_same : (one other : List ℕ) → pointwise eqb one other ≡ same one other
unfolding same
words_same [] [] = refl
words_same [] (y ∷ other) = refl
words_same (x ∷ one) [] = refl
words_same (x ∷ one) (y ∷ other) = ap (λ t. eqb x y && t) (words_same one other)

-- words of another length are no full reading
pub other_length : (ws classes : List ℕ) → (length classes ≡ record_words → ⊥) → false ≡ agrees ws classes
other_length ws classes ne = at (same classes (classes_of ws)) refl
  where
    at : (t : Bool) → same classes (classes_of ws) ≡ t → false ≡ t
    at false e = refl
    at true e = absurd (ne (ap length (same_eq classes (classes_of ws) e) ∙ classes_length (live_keys ws)))

-- One key more

-- in the two words from i on
abbrev with_at : ℕ → ℕ → List ℕ → List ℕ
with_at i key l = set (set l i (suc (get_or l i 0))) (suc i) (lesser key (get_or l (suc i) 0))

module _ (key : ℕ) (keys : List ℕ) where
  -- the words of n classes from i on
  words_from : List ℕ → ℕ → ℕ → List ℕ
  words_from ks i n = flat_map (λ class. class_words (keys_in class ks)) (numbers_from i n)

  pub other_class : (class : ℕ) → (class_of key ≡ class → ⊥) → keys_in class (key ∷ keys) ≡ keys_in class keys
  unfolding those
  other_class class ne = rw (ne_eqb (class_of key) class ne) refl

  pub own_class : (class : ℕ) → class_of key ≡ class → keys_in class (key ∷ keys) ≡ key ∷ keys_in class keys
  unfolding those
  own_class class e = rw (eq-eqb (class_of key) class e) refl

  words_past : (i n : ℕ) → class_of key < i → words_from (key ∷ keys) i n ≡ words_from keys i n
  unfolding words_from numbers_from flat_map
  words_past i zero h = refl
  words_past i (suc n) h = ap₂ (λ ks l. class_words ks ++ l) (other_class i (λ e. omega arith)) (words_past (suc i) n (omega arith))

  words_more : (i n d : ℕ) → class_of key ≡ i + d → words_from (key ∷ keys) i n ≡ with_at (d * 2) key (words_from keys i n)
  unfolding words_from numbers_from flat_map least_of
  words_more i zero d e = refl
  words_more i (suc n) zero e = ap₂ (λ ks l. class_words ks ++ l) (own_class i (omega arith)) (words_past (suc i) n (omega arith))
  words_more i (suc n) (suc d) e =
      let two : suc d * 2 ≡ suc (suc (d * 2)) = omega arith in
      rw two (ap₂ (λ ks l. class_words ks ++ l) (other_class i (λ f. omega arith)) (words_more (suc i) n d (omega arith)))

  pub one_key : classes_in (key ∷ keys) ≡ with_key key (classes_in keys)
  unfolding classes_in with_key_in words_from
  one_key =
      let next : least_at (class_of key) ≡ suc (count_at (class_of key)) = omega arith in
      words_more 0 number_of_classes (class_of key) (omega arith) ∙ rw next refl

-- The order of the keys

-- what is told of some keys, and takes one more by a step, is told so of a live node put in anywhere
module _ {A : Type 0} (H : List ℕ → A) (step : ℕ → A → A) (first : (key : ℕ) (keys : List ℕ) → H (key ∷ keys) ≡ step key (H keys)) where
  abbrev live_step : Node → A → A
  live_step x a = cond x.live (step x.key a) a

  live_first : (x : Node) (row : List Node) → H (live_keys_in (x ∷ row)) ≡ live_step x (H (live_keys_in row))
  unfolding those
  live_first x row = at x.live
    where
      at : (t : Bool) → H (map (λ y. y.key) (cond t (x ∷ those (λ y. y.live) row) (those (λ y. y.live) row))) ≡ cond t (step x.key (H (live_keys_in row))) (H (live_keys_in row))
      at true = first x.key (live_keys_in row)
      at false = refl

  live_put : ((j k : ℕ) (a : A) → step j (step k a) ≡ step k (step j a)) → (x : Node) (row : List Node) →
      H (live_keys_in (put x row)) ≡ H (live_keys_in (x ∷ row))
  live_put swap x row = put_folded (λ r. H (live_keys_in r)) live_step live_first both x row ∙ sym (live_first x row)
    where
      at : (t u : Bool) (j k : ℕ) (a : A) → cond t (step j (cond u (step k a) a)) (cond u (step k a) a) ≡ cond u (step k (cond t (step j a) a)) (cond t (step j a) a)
      at true true j k a = swap j k a
      at true false j k a = refl
      at false true j k a = refl
      at false false j k a = refl

      both : (y z : Node) (a : A) → live_step y (live_step z a) ≡ live_step z (live_step y a)
      both y z a = at y.live z.live y.key z.key a

-- .. where a key counts only in its class
module _ (class : ℕ) {A : Type 0} (H : List ℕ → A) (step : ℕ → A → A) (first : (key : ℕ) (keys : List ℕ) → H (key ∷ keys) ≡ step key (H keys))
    (swap : (j k : ℕ) (a : A) → step j (step k a) ≡ step k (step j a)) where
  abbrev class_step : ℕ → A → A
  class_step key a = cond (eqb (class_of key) class) (step key a) a

  class_first : (key : ℕ) (keys : List ℕ) → H (keys_in class (key ∷ keys)) ≡ class_step key (H (keys_in class keys))
  unfolding those
  class_first key keys = at (eqb (class_of key) class)
    where
      at : (t : Bool) → H (cond t (key ∷ keys_in class keys) (keys_in class keys)) ≡ cond t (step key (H (keys_in class keys))) (H (keys_in class keys))
      at true = first key (keys_in class keys)
      at false = refl

  class_swap : (j k : ℕ) (a : A) → class_step j (class_step k a) ≡ class_step k (class_step j a)
  class_swap j k a = at (eqb (class_of j) class) (eqb (class_of k) class)
    where
      at : (t u : Bool) → cond t (step j (cond u (step k a) a)) (cond u (step k a) a) ≡ cond u (step k (cond t (step j a) a)) (cond t (step j a) a)
      at true true = swap j k a
      at true false = refl
      at false true = refl
      at false false = refl

  class_put : (x : Node) (row : List Node) → H (keys_in class (live_keys_in (put x row))) ≡ H (keys_in class (live_keys_in (x ∷ row)))
  class_put = live_put (λ keys. H (keys_in class keys)) class_step class_first class_swap

-- a node put in its place changes the record as one in front does
put_classes : (x : Node) (row : List Node) → classes_in (live_keys_in (put x row)) ≡ classes_in (live_keys_in (x ∷ row))
unfolding classes_in least_of
put_classes x row = λ i. flat_map (λ class. counts class i ∷ leasts class i ∷ []) (numbers_from 0 number_of_classes)
  where
    counts : (class : ℕ) → length (keys_in class (live_keys_in (put x row))) ≡ length (keys_in class (live_keys_in (x ∷ row)))
    counts class = class_put class length (λ key n. suc n) (λ key keys. refl) (λ j k n. refl) x row

    leasts : (class : ℕ) → least_of (keys_in class (live_keys_in (put x row))) ≡ least_of (keys_in class (live_keys_in (x ∷ row)))
    leasts class = class_put class least_of lesser (λ key keys. refl) lesser_swap x row

-- .. which is one key more if it is live
pub one_node : (x : Node) (row : List Node) →
    classes_in (live_keys_in (put x row)) ≡ cond x.live (with_key x.key (classes_in (live_keys_in row))) (classes_in (live_keys_in row))
one_node x row = put_classes x row ∙ live_first classes_in with_key one_key x row
