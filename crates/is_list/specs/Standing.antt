-- Parts of the account on the words that have a function of their own, and what the one loop over the standing cells keeps and promises.
use Rattle.std.specs.Prelude.{◌≡◌, true, cond, ◌&&◌, List, [], ◌∷◌, ℕ, zero, suc, ◌-◌, ◌≤◌, ◌<◌, eqb, length, get_or, None, Option, Some}
use Rattle.settings.specs.declared.Settings.{Settings}
use Rattle.meaning.specs.Reading.{settings_at}
use Rattle.meaning.specs.Words.{owed_at, high_at, link_at}
use Rattle.words.specs.Shaped.{Shaped}
use Rattle.account.specs.declared.Seen.{Seen}
use Rattle.account.specs.Tree.{header_right}
use Rattle.account.specs.Pending.{Link, put_from, followed_all}
use Rattle.account.specs.Loop.{met_right, met, owes_right, Hung, left_over, no_list, verdict}
use Rattle.is_list.specs.declared.standing.Way.{Way}
use Rattle.is_list.specs.declared.standing.Next.{Next}
use Rattle.is_list.specs.declared.standing.Next.TheVariants.{Wrong, End, Goes}

-- the settings that the header holds, where it is that of a list
abbrev pub header_of : List ℕ → Option Settings
header_of ws = cond (header_right ws) (Some (settings_at ws)) None

-- what has been seen lies within the list: the cell read last is one of its cells, and of its path words at most all agree
pub record SeenWithin (s : Settings) (seen : Seen) : Type 0 where
  pub last : seen.last < s.cells
  pub agreed : seen.agreed ≤ s.dimensions

-- cell y has been met by link e: what is seen then
pub record Entered (ws : List ℕ) (s : Settings) (y e : ℕ) (seen r : Seen) : Type 0 where
  pub right : r.right ≡ met_right ws y e seen
  pub is : r.right ≡ true → r ≡ met ws y e seen
  pub within : r.right ≡ true → SeenWithin s r
  pub falls : r.right ≡ true → r.left < seen.left

-- The pending links, of which the last of the first n in the two arrays is followed next.
unfoldable pub pending_of : List ℕ → List ℕ → ℕ → List Link
pending_of cells numbers zero = []
pending_of cells numbers (suc n) = record { cell = get_or cells n 0; number = get_or numbers n 0 } ∷ pending_of cells numbers n

-- Sixteen are enough: there are at most `most`, and the one at each index has at least that number.
pub record Pending (s : Settings) (cells numbers : List ℕ) (count most : ℕ) : Type 0 where
  pub cells_long : length cells ≡ 16
  pub numbers_long : length numbers ≡ 16
  pub few : count ≤ most
  pub ranked : (i : ℕ) → i < count → (i ≤ get_or numbers i 0) × (get_or numbers i 0 < s.dimensions)

-- what comes after cell x, met by link e, that owes: its one link, to the cell that it owes from
abbrev pub owing_next : List ℕ → ℕ → ℕ → ℕ → ℕ → Next
owing_next ws x e from count =
    cond (eqb from e && owes_right ws x e) (Goes (record { cell = owed_at ws x; number = high_at ws x; from = e; count = count })) Wrong

-- the way on is right: it comes after cell y, and what was left to do there is to follow it and what is pending then
pub record GoesOn (ws : List ℕ) (s : Settings) (y e from : ℕ) (pending : List Link) (w : Way) (cells numbers : List ℕ) : Type 0 where
  pub hung : Hung ws y w.number w.from
  pub number : w.number < s.dimensions
  pub pends : Pending s cells numbers w.count w.from
  pub rest :
      (x : ℕ) → Hung ws x e from → (t : Seen) →
      left_over ws x y e from pending t
      ≡ followed_all ws (record { cell = w.cell; number = w.number }
      ∷ put_from (link_at ws w.cell) w.from (w.number - w.from) (pending_of cells numbers w.count)) t

-- What comes after cell y, met by link e, whatever cell it was met from and whatever has been seen.
pub record NextIs (ws : List ℕ) (s : Settings) (y e from : ℕ) (pending : List Link) (r : Next) (cells numbers : List ℕ) : Type 0 where
  pub wrong : r ≡ Wrong → (x : ℕ) → Hung ws x e from → (t : Seen) → verdict (left_over ws x y e from pending t) ≡ no_list
  pub end : r ≡ End → (x : ℕ) → Hung ws x e from → (t : Seen) → left_over ws x y e from pending t ≡ followed_all ws [] t
  pub goes : (w : Way) → r ≡ Goes w → GoesOn ws s y e from pending w cells numbers

-- where the loop starts: at a head that owes nothing
pub record Started (ws : List ℕ) (s : Settings) (start : Seen) : Type 0 where
  pub shaped : Shaped ws s
  pub within : SeenWithin s start
  pub right : start.right ≡ true
  pub head : start.last ≡ 0
  pub unowing : owed_at ws 0 ≡ 0
