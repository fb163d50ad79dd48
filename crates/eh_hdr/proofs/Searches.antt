-- The last location up to an address, among locations that ascend.
use Rattle.std.proofs.Common.{◌≡◌, ℕ, ◌+◌, ◌-◌, ◌<◌, ◌≤◌, List, length, get_or, Bool, true, false, cond, Some, nat_le, sym, ap, ◌∙◌, arith, inl, inr, slice_get, leb-true, leb-false}
use Rattle.std.specs.List.{All}
use Rattle.std.proofs.lemmas.Bool.{cases_lt}
use Rattle.std.proofs.lemmas.List.{length-map}
use Rattle.std.proofs.lemmas.Option.{slice_get_within, slice_get-get_or}
use Rattle.frame_parse.specs.Sections.{IsAscending}
use Rattle.eh_hdr.specs.declared.table.TableEntry.{TableEntry}
use Rattle.eh_hdr.specs.Tables.{IsLastUpTo, locations}
use Rattle.frame_parse.proofs.Searches.{up_to}
use Rattle.eh_hdr.proofs.Tables.{location_at}

-- all locations behind the `size` from `base` on are above the address, and that at `base` isn't,
-- where one stands before it
pub record AreLeftUpTo (ns : List ℕ) (pc base size : ℕ) : Type 0 where
  pub within : base + size ≤ length ns
  pub some : 0 < length ns → 0 < size
  pub below : 0 < base → get_or ns base 0 ≤ pc
  pub above : (k : ℕ) → base + size ≤ k → k < length ns → pc < get_or ns k 0

pub all_left : (ns : List ℕ) (pc : ℕ) → AreLeftUpTo ns pc 0 (length ns)
all_left ns pc = record { within = omega arith; some = λ lt. lt; below = λ lt. absurd (omega arith); above = λ k le lt. absurd (omega arith) }

pub half_left : (ns : List ℕ) (pc base size half : ℕ) (b : Bool) → IsAscending ns → AreLeftUpTo ns pc base size → 0 < half → half + half ≤ size → nat_le (get_or ns (base + half) 0) pc ≡ b
    → AreLeftUpTo ns pc (base + cond b half 0) (size - half)
half_left ns pc base size half true up left some le e =
    let w = left.within in
    record {
      within = omega (arith, w);
      some = λ lt. omega arith;
      below = λ lt. leb-true _ _ e;
      above = λ k ge inside. left.above k (omega (arith, ge)) inside;
    }
half_left ns pc base size half false up left some le e =
    let w = left.within in
    let over = leb-false _ _ e in
    record {
      within = omega (arith, w);
      some = λ lt. omega arith;
      below = λ lt. let same : base + 0 ≡ base = omega arith in rw same (left.below (omega arith));
      above = λ k ge inside. let more = up_to ns (base + half) k up (omega (arith, ge)) inside in omega (arith, more, over);
    }

pub size_of : (es : List TableEntry) → length (locations es) ≡ length es
size_of es = length-map es (λ (e : TableEntry). e.location)

pub location_in : (es : List TableEntry) (k : ℕ) (d : TableEntry) → k < length es → get_or (locations es) k 0 ≡ (get_or es k d).location
location_in es k d lt = location_at es k (get_or es k d) (slice_get-get_or es k d lt)

pub is_last : (es : List TableEntry) (pc base size : ℕ) (e : TableEntry) → AreLeftUpTo (locations es) pc base size → size ≤ 1 → slice_get es base ≡ Some e → e.location ≤ pc → IsLastUpTo pc es base
is_last es pc base size e left few at le = (
  slice_get_within es base e at,
  λ d at_d. let same : e ≡ d = let both = sym at ∙ at_d in cc in omega (arith, le, ap (λ (x : TableEntry). x.location) same),
  λ j d lt at_d.
      let inside = slice_get_within es j d at_d in
      let over = left.above j (omega (arith, few, lt)) (omega (arith, inside, size_of es)) in
      omega (arith, over, location_at es j d at_d),
)

pub none_up_to : (es : List TableEntry) (pc base size : ℕ) → IsAscending (locations es) → AreLeftUpTo (locations es) pc base size → size ≤ 1 → (base < length es → pc < get_or (locations es) base 0)
    → All (λ e. pc < e.location) es
none_up_to es pc base size up left few over =
    λ k d lt.
    let same = size_of es in
    let w = left.within in
    let some = left.some (omega (arith, lt, same)) in
    let inside : base < length es = omega (arith, some, w, same) in
    let first = over inside in
    let start : base ≡ 0 = elim (cases_lt 0 base) [ inl later ↦ absurd (let low = left.below later in omega (arith, low, first)) | inr none ↦ omega arith ] in
    let more = up_to (locations es) base k up (omega (arith, start)) (omega (arith, lt, same)) in
    let here = location_at es k (get_or es k d) (slice_get-get_or es k d lt) in
    omega (arith, more, first, here)
