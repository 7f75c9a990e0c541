-- However an input is cut into parts, what they hand on is what the whole input hands on; and what is fed byte by byte is fed as a whole.
use mathlib.Core.Path.{◌≡◌, refl, sym, subst, ap, ◌∙◌}
use mathlib.Core.List.{List, [], ◌∷◌, ◌++◌, flatten, append_assoc, append-nil}
use Prim.Native.Nat.{ℕ, ◌+◌, ◌≤◌, ◌<◌}
use native.Mathlib.Numerals.{add-one}
use lib.ListN.{length, get_or, take, drop, drop_of_length-le}
use lib.Seq.{take-suc, drop-cons}
use Rattle.text.specs.Parts.{after_all, given_by_all, Handing, begun_after_part, handed_by_part, handed_by_whole, handed_by_parts}
use Rattle.text.specs.Parts.{Known, BytesFed, EndFed}

module _ {A : Type 0} (on : A → ℕ → A) (a : A) (bytes : List ℕ) (i : ℕ) where
  -- from byte i on: one byte more
  pub after_more : i < length bytes → after_all on a (drop i bytes) ≡ after_all on (on a (get_or bytes i 0)) (drop (i + 1) bytes)
  unfolding after_all
  after_more h = rw (add-one i, drop-cons bytes i 0 h) refl

  -- .. or none
  pub after_none : length bytes ≤ i → after_all on a (drop i bytes) ≡ a
  unfolding after_all
  after_none h = rw (drop_of_length-le bytes h) refl

module _ {A B : Type 0} (on : A → B → A) where
  pub after_append : (a : A) (bs more : List B) → after_all on a (bs ++ more) ≡ after_all on (after_all on a bs) more
  unfolding after_all
  after_append a [] more = refl
  after_append a (b ∷ bs) more = after_append (on a b) bs more

  -- what each keeps, they all keep
  after_keeps : {P : A → Type 0} → ((a : A) (b : B) → P a → P (on a b)) → (a : A) (bs : List B) → P a → P (after_all on a bs)
  unfolding after_all
  after_keeps each a [] p = p
  after_keeps each a (b ∷ bs) p = after_keeps each (on a b) bs (each a b p)

  given_append :
      {C : Type 0} (by : A → B → List C) (a : A) (bs more : List B) →
      given_by_all on by a (bs ++ more) ≡ given_by_all on by a bs ++ given_by_all on by (after_all on a bs) more
  unfolding after_all given_by_all
  given_append by a [] more = refl
  given_append by a (b ∷ bs) more = rw (given_append by (on a b) bs more) (sym (append_assoc (by a b) (given_by_all on by (on a b) bs) _))

pub parts_join :
    {A H : Type 0} (handing : Handing A H) (begun : A) (parts : List (List ℕ)) →
    handed_by_parts handing begun parts ≡ handed_by_whole handing begun (flatten parts)
unfolding flatten handed_by_parts after_all given_by_all
parts_join handing begun [] = refl
parts_join handing begun (part ∷ parts) =
    let then = begun_after_part handing begun part in
    rw (
      given_append handing.on handing.by begun part (flatten parts),
      after_append handing.on begun part (flatten parts),
      parts_join handing then parts,
    )
    (sym (append_assoc (handed_by_part handing begun part) (handed_by_part handing then (flatten parts)) _))

module _ {A H S : Type 0} (handing : Handing A H) (left : S → H → S) where
  -- One byte, and the end: what is told of is what they hand on.
  module _ {P : A → Type 0} {before after : S} {told : List H} (done : after ≡ after_all left before told) where
    pub byte_fed :
        {Q : A → Type 0} {byte : ℕ} → ((begun : A) → P begun → Q (handing.on begun byte)) →
        ((begun : A) → P begun → told ≡ handing.by begun byte) → BytesFed handing left (byte ∷ []) P before Q after
    unfolding after_all given_by_all
    byte_fed {byte = byte} on by =
        record {
          begun = on;
          done = λ begun is. done ∙ ap (after_all left before) (by begun is ∙ sym (append-nil (handing.by begun byte)));
        }

    pub end_fed : ((begun : A) → P begun → told ≡ handing.at_end begun) → EndFed handing left P before after
    end_fed by = record { done = λ begun is. done ∙ ap (after_all left before) (by begun is) }

  -- Some bytes, and then more.

  pub none_fed : {P : A → Type 0} {s : S} → BytesFed handing left [] P s P s
  unfolding after_all given_by_all
  none_fed = record { begun = λ begun is. is; done = λ begun is. refl }

  module _ {P Q R : A → Type 0} {before middle after : S} where
    both_fed :
        (bytes more : List ℕ) → BytesFed handing left bytes P before Q middle → BytesFed handing left more Q middle R after →
        BytesFed handing left (bytes ++ more) P before R after
    both_fed bytes more a b =
        record {
          begun = λ begun is.
              subst R (sym (after_append handing.on begun bytes more)) (b.begun (begun_after_part handing begun bytes) (a.begun begun is));
          done = λ begun is.
              let then = begun_after_part handing begun bytes in
              let second = handed_by_part handing then more in
              b.done then (a.begun begun is) ∙ ap (λ (s : S). after_all left s second) (a.done begun is)
              ∙ sym (after_append left before (handed_by_part handing begun bytes) second)
              ∙ ap (after_all left before) (sym (given_append handing.on handing.by begun bytes more));
        }

    pub one_more_fed :
        (part : List ℕ) (i : ℕ) → i < length part → BytesFed handing left (take i part) P before Q middle →
        BytesFed handing left (get_or part i 0 ∷ []) Q middle R after → BytesFed handing left (take (i + 1) part) P before R after
    one_more_fed part i h a b = rw (add-one i, take-suc part i 0 h) (both_fed (take i part) (get_or part i 0 ∷ []) a b)

  -- What each keeps is kept, and some property still tells what is begun.
  module _ {I : S → Type 0} (each : (s : S) (h : H) → I s → I (left s h)) {P : A → Type 0} {before after : S} (had : I before × Known P) where
    keeps : (hs : List H) → after ≡ after_all left before hs → I after
    keeps hs done = subst I (sym done) (after_keeps left each before hs had.0)

    pub kept_by_bytes : {bytes : List ℕ} {Q : A → Type 0} → BytesFed handing left bytes P before Q after → I after × Known Q
    kept_by_bytes {bytes} fed =
        let begun = had.1.begun in
        let is = had.1.is in (
          keeps (handed_by_part handing begun bytes) (fed.done begun is),
          record { begun = begun_after_part handing begun bytes; is = fed.begun begun is },
        )

    pub kept_by_end : EndFed handing left P before after → I after
    kept_by_end fed = keeps (handing.at_end had.1.begun) (fed.done had.1.begun had.1.is)
