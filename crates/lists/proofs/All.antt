-- What holds of all members of a list.
use mathlib.Core.Path.{◌≡◌, refl, sym, ap, subst}
use mathlib.Core.Bool.{Bool, true}
use mathlib.Core.List.{List, [], ◌∷◌, ◌++◌, map, reverse_aux, Memᴰ}
use Rattle.lists.specs.Lists.{every}
use Rattle.lists.proofs.Tests.{both, and_both}

-- P holds of all members
abbrev pub All : {A : Type 0} → (A → Type 0) → List A → Type 0
All P [] = Unit {0}
All P (x ∷ xs) = P x × All P xs

pub every_all : {A : Type 0} (test : A → Bool) (xs : List A) → every test xs ≡ true → All (λ x. test x ≡ true) xs
unfolding every
every_all test [] e = tt
every_all test (x ∷ xs) e = ((both (test x) (every test xs) e).0, every_all test xs (both (test x) (every test xs) e).1)

pub all_every : {A : Type 0} (test : A → Bool) (xs : List A) → All (λ x. test x ≡ true) xs → every test xs ≡ true
unfolding every
all_every test [] a = refl
all_every test (x ∷ xs) a = and_both (test x) (every test xs) a.0 (all_every test xs a.1)

pub all_map : {A : Type 0} {P Q : A → Type 0} → ((x : A) → P x → Q x) → (xs : List A) → All P xs → All Q xs
all_map f [] a = tt
all_map f (x ∷ xs) a = (f x a.0, all_map f xs a.1)

pub all_append : {A : Type 0} (P : A → Type 0) (xs ys : List A) → All P xs → All P ys → All P (xs ++ ys)
all_append P [] ys a c = c
all_append P (x ∷ xs) ys a c = (a.0, all_append P xs ys a.1 c)

pub all_left : {A : Type 0} (P : A → Type 0) (xs ys : List A) → All P (xs ++ ys) → All P xs
all_left P [] ys a = tt
all_left P (x ∷ xs) ys a = (a.0, all_left P xs ys a.1)

pub all_right : {A : Type 0} (P : A → Type 0) (xs ys : List A) → All P (xs ++ ys) → All P ys
all_right P [] ys a = a
all_right P (x ∷ xs) ys a = all_right P xs ys a.1

pub all_each : {A : Type 0} {P : A → Type 0} → ((x : A) → P x) → (xs : List A) → All P xs
all_each f [] = tt
all_each f (x ∷ xs) = (f x, all_each f xs)

pub all_zip : {A : Type 0} {P Q R : A → Type 0} → ((x : A) → P x → Q x → R x) → (xs : List A) → All P xs → All Q xs → All R xs
all_zip f [] a c = tt
all_zip f (x ∷ xs) a c = (f x a.0 c.0, all_zip f xs a.1 c.1)

pub all_of_map : {A B : Type 0} (P : B → Type 0) (f : A → B) (xs : List A) → All P (map f xs) → All (λ x. P (f x)) xs
all_of_map P f [] a = tt
all_of_map P f (x ∷ xs) a = (a.0, all_of_map P f xs a.1)

pub all_mapped : {A B : Type 0} (P : B → Type 0) (f : A → B) (xs : List A) → All (λ x. P (f x)) xs → All P (map f xs)
all_mapped P f [] a = tt
all_mapped P f (x ∷ xs) a = (a.0, all_mapped P f xs a.1)

pub all_reverse_aux : {A : Type 0} (P : A → Type 0) (xs ys : List A) → All P xs → All P ys → All P (reverse_aux xs ys)
all_reverse_aux P [] ys a c = c
all_reverse_aux P (x ∷ xs) ys a c = all_reverse_aux P xs (x ∷ ys) a.1 (a.0, c)

-- what holds of all holds of the one between two parts, and what holds of each one between two parts holds of all
pub all_at : {A : Type 0} (P : A → Type 0) (front : List A) (x : A) (later : List A) → All P (front ++ (x ∷ later)) → P x
all_at P front x later a = (all_right P front (x ∷ later) a).0

pub all_splits : {A : Type 0} (P : A → Type 0) (xs : List A) → ((front : List A) (x : A) (later : List A) → xs ≡ front ++ (x ∷ later) → P x) → All P xs
all_splits P [] at = tt
all_splits {A} P (x ∷ xs) at = (at [] x xs refl, all_splits P xs (λ front y later e. at (x ∷ front) y later (ap {B = List A} (λ r. x ∷ r) e)))

pub all_in : {A : Type 0} (P : A → Type 0) {x : A} {xs : List A} → Memᴰ x xs → All P xs → P x
all_in P (Memᴰ.head e) a = subst P (sym e) a.0
all_in P (Memᴰ.tail m) a = all_in P m a.1

pub members : {A : Type 0} (xs : List A) → All (λ x. Memᴰ x xs) xs
members [] = tt
members (x ∷ xs) = (Memᴰ.head refl, all_map (λ y m. Memᴰ.tail m) xs (members xs))
