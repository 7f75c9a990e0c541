-- Finishing keeps a list, and where all that is owed is finished, nobody owes any more.
use mathlib.Core.Path.{◌≡◌, sym, ap, ◌∙◌, subst}
use mathlib.Core.List.{List, map}
use Prim.Native.Nat.{ℕ, ◌-◌, ◌<◌}
use Rattle.settings.specs.declared.Settings.{Settings}
use Rattle.meaning.specs.State.{State}
use Rattle.meaning.specs.Picture.{picture}
use Rattle.meaning.specs.Reading.{read}
use Rattle.meaning.specs.Operations.{paid, finished, with_row}
use Rattle.meaning.specs.Layer.Stores.{finish_words}
use Rattle.meaning.specs.Layer.SweepStores.{finish_all}
use Rattle.meaning.specs.Layer.Listed.{Listed}
use Rattle.meaning.proofs.Pictures.State.{Sound}
use Rattle.meaning.proofs.Kept.KeepsFinish.{finished_sound}
use Rattle.meaning.proofs.Pictures.ReadBack.{read_of_picture, picture_is_list}
use Rattle.meaning.proofs.Written.SweepFinish.{finish_cell, paid_unowing, finish_all_lem, paid_sound, paid_owes_nothing}
use Rattle.words.proofs.Listed.{picture_shaped, on_listed}
use Rattle.free_between.specs.Between.{Paid}

picture_listed : (t : State) → Sound t → Listed (picture t) t.settings
picture_listed t v = record { list = picture_is_list t v; settings = (picture_shaped t v).header }

pub finish_listed : {ws : List ℕ} {s : Settings} → Listed ws s → (x : ℕ) → x < s.cells → Listed (finish_words s.dimensions ws x) s
finish_listed =
    on_listed (λ t ws s. (x : ℕ) → x < s.cells → Listed (finish_words s.dimensions ws x) s)
    (λ t v x h.
    subst (λ ws. Listed ws t.settings) (sym (finish_cell t v x h)) (picture_listed (with_row t (finished x t.row)) (finished_sound t x v)))

-- the state in which all is paid
abbrev all_paid : State → State
all_paid t = with_row t (map paid t.row)

pub paid_read :
    {ws : List ℕ} {s : Settings} → Listed ws s → {left : List ℕ} → left ≡ finish_all s.dimensions ws 1 (s.cells - 1) →
    read left ≡ all_paid (read ws)
paid_read h {left} e =
    on_listed (λ t ws s. left ≡ finish_all s.dimensions ws 1 (s.cells - 1) → read left ≡ all_paid t)
    (λ t v p. ap read (p ∙ finish_all_lem t v) ∙ read_of_picture (all_paid t) (paid_sound t v)) h e

pub all_paid_lem : {ws : List ℕ} {s : Settings} → Listed ws s → {left : List ℕ} → left ≡ finish_all s.dimensions ws 1 (s.cells - 1) → Paid left s
all_paid_lem {ws} {s} h {left} e =
    record {
      listed =
          on_listed (λ t ws s. left ≡ finish_all s.dimensions ws 1 (s.cells - 1) → Listed left s)
          (λ t v p. subst (λ l. Listed l t.settings) (sym (p ∙ finish_all_lem t v)) (picture_listed (all_paid t) (paid_sound t v)))
          h e;
      unowing =
          subst (λ t. map paid t.row ≡ t.row) (sym (paid_read h e)) (paid_unowing (map paid (read ws).row) (paid_owes_nothing (read ws).row));
    }
