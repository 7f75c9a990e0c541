-- What a list gives to whoever works on its words: they are the picture of a state in order, so they have their shape, and every cell that
-- they name is one of the list's.
use mathlib.Core.Path.{◌≡◌, refl, subst₂}
use mathlib.Core.List.{List}
use Prim.Native.Nat.{ℕ, ◌^◌, ◌≤◌, ◌<◌}
use native.Mathlib.Omega.{arith}
use Rattle.settings.specs.declared.Settings.{Settings}
use Rattle.settings.proofs.Numbers.{base_power_fits}
use Rattle.meaning.specs.State.{State}
use Rattle.meaning.specs.Picture.{picture}
use Rattle.meaning.specs.Reading.{settings_at, read}
use Rattle.meaning.specs.Words.{owed_at}
use Rattle.meaning.specs.Walk.{link_read}
use Rattle.meaning.specs.Layer.Listed.{Listed}
use Rattle.meaning.proofs.Pictures.State.{Sound, base_of_lem, base_positive, base_above}
use Rattle.meaning.proofs.Pictures.Picture.{picture_length}
use Rattle.meaning.proofs.Pictures.ReadBack.{list_is_picture, list_sound}
use Rattle.meaning.proofs.Cells.CellsWithin.{owed_within, link_read-within}
use Rattle.words.specs.Shaped.{Shaped}

pub picture_shaped : (t : State) → Sound t → Shaped (picture t) t.settings
picture_shaped t v =
    record {
      header = header;
      long = picture_length t;
      dimensions_least = v.ranges.dimensions_least;
      dimensions_most = v.ranges.dimensions_most;
      cells_most = v.ranges.cells_most;
    }
  where
    header : settings_at (picture t) ≡ t.settings
    header = unfold picture in refl

pub power_fits : (t : State) → Sound t → t.settings.base ^ t.settings.dimensions < 2 ^ 64
power_fits t v = base_power_fits v.ranges.dimensions_most v.ranges.largest_most v.ranges.largest_least (base_of_lem t v)

-- its words are the picture of the state that they hold, which is in order
pub record Pictured (ws : List ℕ) (s : Settings) : Type 0 where
  pub pictured : picture (read ws) ≡ ws
  pub sound : Sound (read ws)
  pub settings : (read ws).settings ≡ s

pub listed_picture : {ws : List ℕ} {s : Settings} → Listed ws s → Pictured ws s
unfolding read
listed_picture {ws} h = record { pictured = list_is_picture ws h.list; sound = list_sound ws h.list; settings = h.settings }

-- what holds of each state in order, its picture and its settings holds of a list
pub on_listed :
    (P : State → List ℕ → Settings → Type 0) → ((t : State) → Sound t → P t (picture t) t.settings) → {ws : List ℕ} {s : Settings} →
    Listed ws s → P (read ws) ws s
on_listed P f {ws} h = let p = listed_picture h in subst₂ (P (read ws)) p.pictured p.settings (f (read ws) p.sound)

pub listed_shaped : {ws : List ℕ} {s : Settings} → Listed ws s → Shaped ws s
listed_shaped = on_listed (λ t ws s. Shaped ws s) picture_shaped

pub listed_base : {ws : List ℕ} {s : Settings} → Listed ws s → 0 < s.base
listed_base = on_listed (λ t ws s. 0 < s.base) base_positive

pub listed_cells : {ws : List ℕ} {s : Settings} → Listed ws s → 3 ≤ s.cells
listed_cells = on_listed (λ t ws s. 3 ≤ s.cells) (λ t v. v.ranges.cells_least)

-- the powers of b fit, and the keys have D coordinates
pub listed_power : {ws : List ℕ} {s : Settings} → Listed ws s → s.base ^ s.dimensions < 2 ^ 64
listed_power = on_listed (λ t ws s. s.base ^ s.dimensions < 2 ^ 64) power_fits

pub listed_fits : {ws : List ℕ} {s : Settings} → Listed ws s → {k : ℕ} → k ≤ s.largest → k < s.base ^ s.dimensions
listed_fits h most = omega (arith, most, on_listed (λ t ws s. s.largest < s.base ^ s.dimensions) base_above h)

-- the cell that is owed from, and the one to which a link leads as it is read
pub listed_owed : {ws : List ℕ} {s : Settings} → Listed ws s → (x : ℕ) → x < s.cells → owed_at ws x < s.cells
listed_owed = on_listed (λ t ws s. (x : ℕ) → x < s.cells → owed_at ws x < s.cells) owed_within

pub listed_link : {ws : List ℕ} {s : Settings} → Listed ws s → (x d : ℕ) → x < s.cells → d < s.dimensions → link_read ws x d < s.cells
listed_link = on_listed (λ t ws s. (x d : ℕ) → x < s.cells → d < s.dimensions → link_read ws x d < s.cells) link_read-within
