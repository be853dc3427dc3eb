-- The three stretches lie in range and join to the normal replacement.
use Prim.Native.Nat.{ℕ, zero, suc, ◌+◌, ◌-◌, ◌<◌, ◌≤◌, min, max}
use native.Mathlib.Nat.{zero-sub, sub-zero, suc-sub-suc}
use native.Mathlib.Omega.{arith}
use mathlib.Core.Path.{◌≡◌, refl, ◌∙◌, sym, ap}
use mathlib.Core.List.{List, [], ◌∷◌, ◌++◌, append-nil}
use lib.Dec.{leb}
use lib.ListN.{length, take, drop, length-drop, drop_of_length-le}
use lib.Seq.{take_all, take-nil, take-length, drop_at, length-take-le}
use borrow.Author.Tests.{leb-true, leb-false}
use Rattle.stretch.specs.Part.{part}
use Rattle.stretch.specs.Same.{same}
use Rattle.stretch.proofs.Cases.{by_cases}
use Rattle.stretch.proofs.Interval.{take-end}
use Rattle.normal_form.specs.declared.Kind.TheVariants.{Unchanged}
use Rattle.normal_form.specs.Form.{Allele, altered, ahead, behind, kind_of, normal, changed_form}
use Rattle.normal_form.specs.Stretches.{Fits, joined, spread, changed_stretches, as_given, stretches_of, form_in}
use Rattle.normal_form.proofs.Flanks.{length-altered}
use Rattle.normal_form.proofs.Reach.{ahead-front, behind-back, reach-both}

-- a cut through two lists in a row
drop-append : (i : ℕ) (u v : List ℕ) → drop i (u ++ v) ≡ drop i u ++ drop (i - length u) v
drop-append zero [] v = refl
drop-append (suc i) [] v = rw (sub-zero (suc i))
drop-append zero (x ∷ u) v = rw (zero-sub (suc (length u)))
drop-append (suc i) (x ∷ u) v = rw (suc-sub-suc i (length u)) (drop-append i u v)

take-append : (i : ℕ) (u v : List ℕ) → take i (u ++ v) ≡ take i u ++ take (i - length u) v
take-append zero [] v = refl
take-append (suc i) [] v = rw (sub-zero (suc i))
take-append zero (x ∷ u) v = rw (zero-sub (suc (length u)))
take-append (suc i) (x ∷ u) v = rw (suc-sub-suc i (length u)) (ap (λ (l : List ℕ). x ∷ l) (take-append i u v))

pub drop-front : (l : List ℕ) (i j : ℕ) → i ≤ j → i ≤ length l → drop i (take j l) ≡ part l i j
drop-front l i j h g = ap (drop i) (take-end l i j h) ∙ drop_at (take i l) (part l i j) i (length-take-le i l g)

-- the piece before start, from a on
before-piece : (r : List ℕ) (start a j : ℕ) → start ≤ length r → start ≤ j
    → take (j - a) (drop a (take start r)) ≡ part r (min a start) start
before-piece r start a j h g =
    by_cases (leb a start)
    (λ e. let l : a ≤ start = leb-true a start e in
    let m : min a start ≡ a = omega arith in
    let short : length (take (start - a) (drop a r)) ≤ j - a =
    rw (length-take-le (start - a) (drop a r) (simp length-drop (omega arith))) (omega arith) in
    rw (m, drop-front r a start l (omega arith)) (take_all (j - a) (take (start - a) (drop a r)) short))
    (λ e. let l : start < a = leb-false a start e in
    let m : start - min a start ≡ 0 = omega arith in
    let none : drop a (take start r) ≡ [] =
    drop_of_length-le (take start r) {i = a} (rw (length-take-le start r h) (omega arith)) in
    rw (none, m, take-nil (j - a)))

-- the piece of the replacement, cut at its end by what b takes of it: room is what lies after it
given-piece : (x : List ℕ) (from i b room : ℕ) → from + i + b ≡ length x + room → from + (b - room) ≤ length x
    → take i (drop from x) ≡ part x from (length x - (b - room))
given-piece x from i b room e h =
    by_cases (leb b room)
    (λ t. let l : b ≤ room = leb-true b room t in
    let k : length x - (b - room) ≡ length x = omega arith in
    rw (
      k,
      take_all i (drop from x) (simp length-drop (omega arith)),
      take_all (length x - from) (drop from x) (simp length-drop (omega arith)),
    ))
    (λ t. let l : room < b = leb-false b room t in
    let k : i ≡ length x - (b - room) - from = omega arith in
    ap (λ (o : ℕ). take o (drop from x)) k)

-- the length of the last piece
sub-three : (m i j k : ℕ) → m - i - j - k ≡ m - (i + j + k)
sub-three m i j k = omega arith

both-sides : (start given a : ℕ) → a ≤ start + given → a + (start - a) + (given - (a - start)) ≡ start + given
both-sides start given a h = omega arith

room-left : (s room b : ℕ) → s + room - b - s ≡ room - b
room-left s room b = omega arith

behind-end : (n end b : ℕ) → end ≤ n → max (n - b) end - end ≡ n - end - b
behind-end n end b h = omega arith

last-piece : (n start end given a b : ℕ) → end ≤ n → a ≤ start + given
    → start + given + (n - end) - b - a - (start - a) - (given - (a - start)) ≡ max (n - b) end - end
last-piece n start end given a b h g =
    sub-three (start + given + (n - end) - b) a (start - a) (given - (a - start))
    ∙ rw (both-sides start given a g, room-left (start + given) (n - end) b, behind-end n end b h)

given-number : (start given room a b : ℕ) → a ≤ start + given → b ≤ given + room → a + b ≤ start + given + room
    → a - start + (start + given + room - b - a - (start - a)) + b ≡ given + room
given-number start given room a b h g k = omega arith

given-room : (start given room a b : ℕ) → a ≤ start + given → b ≤ given + room → a + b ≤ start + given + room
    → a - start + (b - room) ≤ given
given-room start given room a b h g k = omega arith

module _ (r : List ℕ) (start end : ℕ) (x : List ℕ) (a b : ℕ) (h : start ≤ end) (g : end ≤ length r)
    (front : a ≤ start + length x) (back : b ≤ length x + (length r - end))
    (both : a + b ≤ start + length x + (length r - end)) where
  cut : drop a (altered r start end x) ≡ drop a (take start r) ++ (drop (a - start) x ++ drop end r)
  unfolding altered
  cut =
      let none : a - start - length x ≡ 0 = omega arith in
      drop-append a (take start r) (x ++ drop end r)
      ∙ rw (length-take-le start r (omega arith), drop-append (a - start) x (drop end r), none)

  pub pieces-join : part r (min a start) start
      ++ (part x (a - start) (length x - (b - (length r - end))) ++ part r end (max (length r - b) end))
      ≡ part (altered r start end x) a (length (altered r start end x) - b)
  pieces-join =
      let n = length r in
      let j = start + length x + (n - end) - b in
      let past : start ≤ j = omega arith in
      let one : length (drop a (take start r)) ≡ start - a = length-drop a (take start r)
      ∙ ap (λ (k : ℕ). k - a) (length-take-le start r (omega arith)) in
      let two : length (drop (a - start) x) ≡ length x - (a - start) = length-drop (a - start) x in
      let last : j - a - (start - a) - (length x - (a - start)) ≡ max (n - b) end - end =
      last-piece n start end (length x) a b g front in
      sym (ap (λ (l : ℕ). take (l - b - a) (drop a (altered r start end x))) (length-altered r start end x h g)
      ∙ ap (take (j - a)) cut
      ∙ take-append (j - a) (drop a (take start r)) (drop (a - start) x ++ drop end r)
      ∙ rw (
        one,
        take-append (j - a - (start - a)) (drop (a - start) x) (drop end r),
        two,
        last,
        before-piece r start a j (omega arith) past,
        given-piece x (a - start) (j - a - (start - a)) b (n - end)
            (given-number start (length x) (n - end) a b front back both)
            (given-room start (length x) (n - end) a b front back both),
      ))

module _ (r : List ℕ) (start end : ℕ) (x : List ℕ) (allele : Allele r start end x) where
  h : start ≤ end
  h = allele.ordered

  g : end ≤ length r
  g = allele.inside

  fits-changed : Fits r x (changed_stretches r start end x (altered r start end x))
  unfolding changed_stretches spread ahead behind
  fits-changed =
      record {
        allele = allele;
        before = omega arith;
        ordered = omega (
          arith,
          ahead-front r start end x h g,
          behind-back r start end x h g,
          reach-both r start end x h g,
        );
        kept = omega arith;
        after = omega arith;
        inside = omega (arith, g);
      }

  fits-given : Fits r x (as_given start end (length x))
  unfolding as_given
  fits-given =
      record {
        allele = allele;
        before = omega arith;
        ordered = omega arith;
        kept = omega arith;
        after = omega arith;
        inside = g;
      }

  -- the stretches lie in range
  pub stretches-fit : Fits r x (stretches_of r start end x)
  unfolding stretches_of
  stretches-fit = by_cases (same r (altered r start end x)) (λ e. rw e fits-given) (λ e. rw e fits-changed)

  joins-changed : form_in r x (changed_stretches r start end x (altered r start end x))
      ≡ changed_form r (altered r start end x)
  unfolding joined changed_stretches spread changed_form kind_of ahead behind
  joins-changed =
      let t = altered r start end x in
      ap (λ (l : List ℕ). record {
        kind = kind_of r t;
        start = ahead r t;
        end = length r - behind r t;
        replacement = l;
      })
      (pieces-join r start end x (ahead r t) (behind r t) h g
      (ahead-front r start end x h g) (behind-back r start end x h g) (reach-both r start end x h g))

  joins-given : joined r x (as_given start end (length x)) ≡ x
  unfolding joined as_given
  joins-given =
      let s : start - start ≡ 0 = omega arith in
      let e : end - end ≡ 0 = omega arith in
      let z : length x - 0 ≡ length x = omega arith in
      rw (s, e, z, take-length x) (append-nil x)

  unchanged : form_in r x (as_given start end (length x))
      ≡ record { kind = Unchanged; start = start; end = end; replacement = x }
  unfolding as_given
  unchanged = ap (λ (l : List ℕ). record { kind = Unchanged; start = start; end = end; replacement = l }) joins-given

  -- and hold the normal form: they join to its replacement
  pub stretches-join : form_in r x (stretches_of r start end x) ≡ normal r start end x
  unfolding stretches_of normal
  stretches-join =
      by_cases (same r (altered r start end x))
      (λ e. rw e unchanged)
      (λ e. rw e joins-changed)
