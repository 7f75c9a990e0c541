-- An input that comes in parts, byte by byte: what is begun goes on from byte to byte and from part to part, each byte hands something on,
-- and each that is handed on does something to a state.
use Rattle.std.specs.Prelude.{◌≡◌, Bool, true, List, [], ◌∷◌, ◌++◌, ℕ, length, take}

-- what the members of a list leave, one after the other, where `on` is what one leaves
unfoldable pub after_all : {A B : Type 0} → (A → B → A) → A → List B → A
after_all on a [] = a
after_all on a (b ∷ bs) = after_all on (on a b) bs

-- what they give, one after the other, where `by` is what one gives
unfoldable pub given_by_all : {A B C : Type 0} → (A → B → A) → (A → B → List C) → A → List B → List C
given_by_all on by a [] = []
given_by_all on by a (b ∷ bs) = by a b ++ given_by_all on by (on a b) bs

-- How an input hands on: what a byte makes of what is begun, what it hands on, and what the end of the input hands on.
pub record Handing (A H : Type 0) : Type 0 where
  pub on : A → ℕ → A
  pub by : A → ℕ → List H
  pub at_end : A → List H

-- what is begun after a part, and what the part hands on
abbrev pub begun_after_part : {A H : Type 0} → Handing A H → A → List ℕ → A
begun_after_part handing = after_all handing.on

abbrev pub handed_by_part : {A H : Type 0} → Handing A H → A → List ℕ → List H
handed_by_part handing = given_by_all handing.on handing.by

-- what a whole input hands on: its bytes, and then its end
abbrev pub handed_by_whole : {A H : Type 0} → Handing A H → A → List ℕ → List H
handed_by_whole handing begun input = handed_by_part handing begun input ++ handing.at_end (begun_after_part handing begun input)

-- what parts hand on, one after the other, and then the end of the input
unfoldable pub handed_by_parts : {A H : Type 0} → Handing A H → A → List (List ℕ) → List H
handed_by_parts handing begun [] = handing.at_end begun
handed_by_parts handing begun (part ∷ parts) =
    handed_by_part handing begun part ++ handed_by_parts handing (begun_after_part handing begun part) parts

-- A property that tells what is begun tells of something.
pub record Known {A : Type 0} (P : A → Type 0) : Type 0 where
  pub begun : A
  pub is : P begun

-- `left` is what one that is handed on leaves of a state. P tells what is begun before some bytes, and Q afterwards.
module _ {A H S : Type 0} (handing : Handing A H) (left : S → H → S) where
  -- Bytes of the input were fed, whatever was begun: all that they hand on was done, in order, and what follows the last of it is begun.
  pub record BytesFed (bytes : List ℕ) (P : A → Type 0) (before : S) (Q : A → Type 0) (after : S) : Type 0 where
    pub begun : (begun : A) → P begun → Q (begun_after_part handing begun bytes)
    pub done : (begun : A) → P begun → after ≡ after_all left before (handed_by_part handing begun bytes)

  -- A part of the input was fed, up to some byte of it: the last one, if every answer was written.
  pub record PartFed (part : List ℕ) (P : A → Type 0) (before : S) (written : Bool) (Q : A → Type 0) (after : S) : Type 0 where
    pub count : ℕ
    pub fed : BytesFed (take count part) P before Q after
    pub whole : written ≡ true → count ≡ length part

  -- The end of the input was met: what it hands on was done.
  pub record EndFed (P : A → Type 0) (before after : S) : Type 0 where
    pub done : (begun : A) → P begun → after ≡ after_all left before (handing.at_end begun)
