-- What stands at a key's place on the words is what stands in the book, or nothing does.
use mathlib.Core.Path.{◌≡◌, sym, ap, ◌∙◌}
use mathlib.Core.Bool.{true}
use mathlib.Core.List.{List}
use Prim.Native.Nat.{ℕ, ◌<◌}
use native.Mathlib.Omega.{arith}
use lib.ListN.{get_or}
use Rattle.std.specs.Prelude.{Result, Ok, Err, MatchResult, is_ok, None, Some}
use Rattle.book.specs.Book.{standing_at}
use Rattle.row.specs.Row.{key_in, book_in, ascending, stands}
use Rattle.row.specs.Places.{place_of, Found, Missing}
use Rattle.row.proofs.Written.{read_length, read_at}
use Rattle.row.proofs.Searching.{place_found, place_absent, stands_found, found}

module _ (ws : List ℕ) (key : ℕ) where
  pub found_there : (i : ℕ) → Found ws key i → standing_at key (book_in ws).row ≡ Some (key_in ws i)
  found_there i f =
      let read = read_at ws i (key_in ws i) f.within in
      let at : place_of key (book_in ws).row ≡ i = sym f.place in
      place_found key (book_in ws).row (key_in ws i) (omega (arith, read_length ws, f.within)) (rw at (ap (λ x. x.key) read ∙ f.is)) ∙ (rw at (ap (λ x. Some x) read))

  module _ (K : ℕ) (rise : ascending 0 K (book_in ws).row ≡ true) where
    pub found_nowhere : (i : ℕ) → Missing ws key i → standing_at key (book_in ws).row ≡ None
    found_nowhere i m =
        place_absent key 0 K (book_in ws).row (key_in ws i) rise
        (λ h is.
        let within : i < get_or ws 3 0 = omega (arith, read_length ws, m.place) in
        m.other within (sym (ap (λ x. x.key) (read_at ws i (key_in ws i) within)) ∙ (rw (sym m.place) at is)))

    pub stands_test : (r : Result ℕ ℕ) → MatchResult r (λ i. Found ws key i) (λ i. Missing ws key i) → is_ok r ≡ stands key (book_in ws).row
    stands_test (Ok i) f = sym (stands_found key (book_in ws).row ∙ ap found (found_there i f))
    stands_test (Err i) m = sym (stands_found key (book_in ws).row ∙ ap found (found_nowhere i m))
