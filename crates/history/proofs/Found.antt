-- What an entry finds: a number that stands for its altered sequence, or that none does.
use Prim.Native.Nat.{ℕ, ◌+◌}
use native.Mathlib.Omega.{arith}
use mathlib.Core.Path.{◌≡◌}
use mathlib.Core.List.{List}
use Rattle.std.specs.Prelude.{Some, None}
use Rattle.normal_form.specs.Form.{Normal}
use Rattle.image.specs.Fields.{issued, status_of, active, inactive}
use Rattle.lookup.specs.Lookup.{holds, lowest_holding}
use Rattle.form_entry.specs.declared.Way.TheVariants.{New as new, Again as again, Known as known}
use Rattle.form_entry.specs.Found.{◌under◌, found}
use Rattle.history.specs.Demand.{Live}
use Rattle.lookup.proofs.Lowest.{by_option, lowest-passes, lowest-none}
use Rattle.history.proofs.Proper.{Has, holds-told, holds-met}

-- number i of this status has the form
pub record Match (b : List ℕ) (f : Normal) (status i : ℕ) : Type 0 where
  pub live : Live b i
  pub status-is : status_of b i ≡ status
  pub has : Has b i f

-- no number of this status does
abbrev pub Unmatched : List ℕ → Normal → ℕ → Type 0
Unmatched b f status = (i : ℕ) → Match b f status i → ⊥

pub data Finding (b : List ℕ) (f : Normal) : Type 0 where
  active_as : (i : ℕ) → found b f ≡ known under i → Match b f active i → Finding b f
  withdrawn_as : (i : ℕ) → found b f ≡ again under i → Match b f inactive i → Finding b f
  nowhere : found b f ≡ new under (issued b + 1) → Unmatched b f active → Unmatched b f inactive → Finding b f

module _ (b : List ℕ) (f : Normal) where
  module _ (status : ℕ) where
    some : (i : ℕ) → lowest_holding b status f ≡ Some i → Match b f status i
    unfolding lowest_holding
    some i e =
        let q = lowest-passes (holds b status f) (issued b) i e in
        let t = holds-told b status f i q.0 in
        record { live = record { from = q.1; to = q.2 }; status-is = t.0; has = t.1 }

    none : lowest_holding b status f ≡ None → Unmatched b f status
    unfolding lowest_holding
    none e i m =
        let fails = lowest-none (holds b status f) (issued b) e i m.live.from m.live.to in
        let apart : ◌≡◌ {A = ℕ} 0 1 = cc (holds-met b status f i m.status-is m.has, fails) in
        omega arith

  pub found-finding : Finding b f
  unfolding found
  found-finding =
      by_option (lowest_holding b active f)
      (λ e.
      by_option (lowest_holding b inactive f)
      (λ g. nowhere (rw (e, g)) (none active e) (none inactive g))
      (λ i g. withdrawn_as i (rw (e, g)) (some inactive i g)))
      (λ i e. active_as i (rw e) (some active i e))
