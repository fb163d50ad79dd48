-- A round: callers that are split off, answered and joined in order.
use Rattle.std.proofs.Common.{◌≡◌, ℕ, suc, ◌+◌, ◌≤◌, List, [], ◌∷◌, ◌++◌, length, map, sym, refl, ap, subst, ◌∙◌, arith, true, false, Bool, nat_lt, append-nil, append_assoc, if◌then◌else◌, All, is_some, max}
use Rattle.std.specs.List.{AllByRecursion, AllZip, flat_map}
use Rattle.std.proofs.lemmas.List.Elements.{All-from_recursion}
use mathlib.Core.List.{IsPrefix}
use Rattle.reg_model.specs.Chain.{IsBetween, made_count}
use Rattle.reg_model.specs.Receipt.{AllHold, accepted, moment}
use Rattle.reg_model.specs.State.{State}
use Rattle.reg_model.specs.declared.answer.Receipt.{Receipt}
use Rattle.reg_model.specs.declared.answer.Update.{Update}
use Rattle.word_rule.specs.CallerData.{CallerData, WordsData}
use Rattle.word_rule.specs.Callers.{IsAlone, IsIdle, IsRecord}
use Rattle.word_rule.specs.Logs.{longer, own_list}
use Rattle.word_rule.specs.declared.log.ReceiptList.{ReceiptList}
use Rattle.word_rule.specs.declared.log.Receipts.{Receipts}
use Rattle.word_rule.specs.declared.log.Terms.{Terms}
use Rattle.word_rule.proofs.Shares.{part_within}
use Rattle.registry_core.specs.Calls.{Answered}
use Rattle.registry_core.specs.Rounds.{AreAnswered, IsAfterRound, IsBetweenRounds, IsSplitOff, IsWholeWhereAlone, after_joins, after_one_join, after_one_split, after_splits, all_split_off, joined_lists, lists_since, one_split_off}
use Rattle.registry_core.proofs.Counting.{count_both, whole_counted}
use Rattle.word_rule.proofs.Each.{all_append, all_behind, all_map}

-- ---- splitting off

-- the shares of some callers together
abbrev shares : List CallerData → ℕ
shares [] = 0
shares (c ∷ callers) = c.log.lineage.share + shares callers

-- what stays of a caller that split off others with so much of its share
record Forked (k m : CallerData) (given : ℕ) (n : ℕ) : Type 0 where
  table : m.table ≡ k.table
  terms : m.log.terms ≡ k.log.terms
  past : m.log.past ≡ k.log.past
  receipts : m.log.receipts ≡ k.log.receipts
  idle : IsIdle k.log → IsIdle m.log
  made : m.log.made ≡ k.log.made + n
  share : m.log.lineage.share + given ≡ k.log.lineage.share

forked : (gives : List ℕ) (k : CallerData) → Forked k (after_splits gives k) (shares (all_split_off gives k)) (length gives)
forked [] k = record {
  table = refl;
  terms = refl;
  past = refl;
  receipts = refl;
  idle = λ i. i;
  made = omega arith;
  share = omega arith;
}
forked (give ∷ gives) k =
    let r = forked gives (after_one_split give k) in
    let m = r.made in let s = r.share in let p = part_within k.log.lineage.share in
    record {
      table = r.table;
      terms = r.terms;
      past = r.past;
      receipts = r.receipts;
      idle = λ i. r.idle (record { held = i.held; out = i.out; loader = i.loader });
      made = omega (arith, m);
      share = omega (arith, s, p);
    }

one_new : (give : ℕ) (k : CallerData) → IsSplitOff k give (one_split_off give k)
one_new give k = record {
  table = refl;
  left = refl;
  terms = refl;
  past = refl;
  receipts = refl;
  idle = record { held = refl; out = refl; loader = refl };
  made = refl;
}

zip_weaker : {A B : Type 0} (P R : A → B → Type 0) → ((a : A) (b : B) → P a b → R a b) → (xs : List A) (ys : List B) → AllZip P xs ys → AllZip R xs ys
zip_weaker P R weaker [] [] all = tt
zip_weaker P R weaker (x ∷ xs) (y ∷ ys) all = (weaker x y all.0, zip_weaker P R weaker xs ys all.1)
zip_weaker P R weaker [] (y ∷ ys) all = absurd all
zip_weaker P R weaker (x ∷ xs) [] all = absurd all

pub all_new : (gives : List ℕ) (k : CallerData) → AllZip (IsSplitOff k) gives (all_split_off gives k)
all_new [] k = tt
all_new (give ∷ gives) k = (
  one_new give k,
  zip_weaker (IsSplitOff (after_one_split give k)) (IsSplitOff k) (λ more c s. record {
    table = s.table;
    left = s.left;
    terms = s.terms;
    past = s.past;
    receipts = s.receipts;
    idle = s.idle;
    made = s.made;
  }) gives (all_split_off gives (after_one_split give k)) (all_new gives (after_one_split give k)),
)

-- the same without the numbers
abbrev IsNew : CallerData → CallerData → Type 0
IsNew k c = (give : ℕ) × IsSplitOff k give c

each_new : (k : CallerData) (gives : List ℕ) (before : List CallerData) → AllZip (IsSplitOff k) gives before → AllByRecursion (IsNew k) before
each_new k [] [] all = tt
each_new k (give ∷ gives) (c ∷ before) all = ((give, all.0), each_new k gives before all.1)
each_new k [] (c ∷ before) all = absurd all
each_new k (give ∷ gives) [] all = absurd all

-- they may be joined at once
pub new_may_join : (w : WordsData) (gives : List ℕ) (k : CallerData) → k.table ≡ w.table → All (λ (other : CallerData). other.table ≡ w.table) (all_split_off gives k) × All (λ (other : CallerData). IsIdle other.log) (all_split_off gives k)
new_may_join w gives k is =
    let P : CallerData → Type 0 = λ other. other.table ≡ w.table in
    let Q : CallerData → Type 0 = λ other. IsIdle other.log in
    let new = each_new k gives (all_split_off gives k) (all_new gives k) in
    (All-from_recursion P (all_split_off gives k) (all_map (IsNew k) P (λ other n. n.1.table ∙ is) (all_split_off gives k) new), All-from_recursion Q (all_split_off gives k) (all_map (IsNew k) Q (λ other n. n.1.idle) (all_split_off gives k) new))

-- ---- what callers whose calls were answered may do

pub idle_still : (rs : List Receipt) (k c : CallerData) → Answered rs k c → IsIdle k.log → IsIdle c.log
idle_still rs k c a i = record {
  held = a.held ∙ i.held;
  out = a.out ∙ i.out;
  loader = a.loader ∙ i.loader;
}

may_join : (k : CallerData) (lists : List (List Receipt)) (before after : List CallerData) → AllByRecursion (IsNew k) before → AreAnswered lists before after → AllByRecursion (λ (other : CallerData). (other.table ≡ k.table) × IsIdle other.log) after
may_join k [] [] [] new a = tt
may_join k (rs ∷ lists) (c ∷ before) (d ∷ after) new a = ((a.0.table ∙ new.0.1.table, idle_still rs c d a.0 new.0.1.idle), may_join k lists before after new.1 a.1)
may_join k [] [] (d ∷ after) new a = absurd a
may_join k [] (c ∷ before) after new a = absurd a
may_join k (rs ∷ lists) [] after new a = absurd a
may_join k (rs ∷ lists) (c ∷ before) [] new a = absurd a

pub may_all_join : (k : CallerData) (gives : List ℕ) (lists : List (List Receipt)) (after : List CallerData) → AreAnswered lists (all_split_off gives k) after
    → All (λ (other : CallerData). other.table ≡ k.table) after × All (λ (other : CallerData). IsIdle other.log) after
may_all_join k gives lists after a =
    let P : CallerData → Type 0 = λ other. other.table ≡ k.table in
    let Q : CallerData → Type 0 = λ other. IsIdle other.log in
    let both = may_join k lists (all_split_off gives k) after (each_new k gives (all_split_off gives k) (all_new gives k)) a in
    (All-from_recursion P after (all_map (λ other. P other × Q other) P (λ other h. h.0) after both), All-from_recursion Q after (all_map (λ other. P other × Q other) Q (λ other h. h.1) after both))

-- ---- joining

longer_begins : (a b c : List Update) → IsPrefix a b → IsPrefix a c → IsPrefix a (longer b c)
longer_begins a b c p q = go (nat_lt (length b) (length c))
  where
    go : (t : Bool) → IsPrefix a (if t then c else b)
    go true = q
    go false = p

-- what callers that were joined in order make of one, with so much of shares
record Gathered (past : List Update) (m n : CallerData) (given : ℕ) (lists : List (List Receipt)) : Type 0 where
  table : n.table ≡ m.table
  terms : n.log.terms ≡ m.log.terms
  begins : IsPrefix past n.log.past
  own : n.log.receipts.own ≡ m.log.receipts.own
  joined : n.log.receipts.joined ≡ m.log.receipts.joined ++ lists_since (length past) lists
  idle : IsIdle m.log → IsIdle n.log
  made : n.log.made ≡ m.log.made
  share : n.log.lineage.share ≡ m.log.lineage.share + given

gathered : (k : CallerData) (lists : List (List Receipt)) (before after : List CallerData) (m : CallerData) → AllByRecursion (IsNew k) before → AreAnswered lists before after → IsPrefix k.log.past m.log.past → Gathered k.log.past m (after_joins after m) (shares before) lists
gathered k [] [] [] m new a begins = record {
  table = refl;
  terms = refl;
  begins = begins;
  own = refl;
  joined = sym (append-nil m.log.receipts.joined);
  idle = λ i. i;
  made = refl;
  share = omega arith;
}
gathered k (rs ∷ lists) (c ∷ before) (d ∷ after) m new a begins =
    let n = new.0.1 in
    let kept : d.log.lineage.share ≡ c.log.lineage.share = ap (λ l. l.share) a.0.lineage in
    let receipts : d.log.receipts ≡ record { since = length k.log.past; own = rs; joined = []; heard = [] } = a.0.own ∙ ap (λ (r : Receipts). record r { own = r.own ++ rs }) n.receipts in
    let seen : IsPrefix k.log.past d.log.past = subst (λ z. IsPrefix z d.log.past) n.past a.0.begins in
    let r = gathered k lists before after (after_one_join d m) new.1 a.1 (longer_begins k.log.past m.log.past d.log.past begins seen) in
    let made = r.made in let none = a.0.made ∙ n.made in let share = r.share in
    record {
      table = r.table;
      terms = r.terms;
      begins = r.begins;
      own = r.own;
      joined = r.joined ∙ (ap (λ (z : Receipts). (m.log.receipts.joined ++ own_list z ∷ z.joined) ++ lists_since (length k.log.past) lists) receipts ∙ append_assoc m.log.receipts.joined (lists_since (length k.log.past) (rs ∷ [])) (lists_since (length k.log.past) lists));
      idle = λ i. r.idle (record { held = i.held; out = i.out; loader = i.loader });
      made = omega (arith, made, none);
      share = omega (arith, share, kept);
    }
gathered k [] [] (d ∷ after) m new a begins = absurd a
gathered k [] (c ∷ before) after m new a begins = absurd a
gathered k (rs ∷ lists) [] after m new a begins = absurd a
gathered k (rs ∷ lists) (c ∷ before) [] m new a begins = absurd a

-- ---- the receipts of a round

abbrev in_one_list : List (List Receipt) → List Receipt
in_one_list lists = flat_map (λ receipts. receipts) lists

lists_both : (xs ys : List (List Receipt)) → in_one_list (xs ++ ys) ≡ in_one_list xs ++ in_one_list ys
lists_both [] ys = refl
lists_both (rs ∷ xs) ys = ap (λ more. rs ++ more) (lists_both xs ys) ∙ sym (append_assoc rs (in_one_list xs) (in_one_list ys))

-- lists that were joined, and some more
pub both_lists : (xs : List ReceiptList) (since : ℕ) (lists : List (List Receipt)) → map (λ (c : ReceiptList). c.list) (xs ++ lists_since since lists) ≡ map (λ (c : ReceiptList). c.list) xs ++ lists
both_lists [] since [] = refl
both_lists [] since (rs ∷ lists) = ap (λ more. rs ∷ more) (both_lists [] since lists)
both_lists (x ∷ xs) since lists = ap (λ more. x.list ∷ more) (both_lists xs since lists)

-- none is below what was seen before
since_all : (k : CallerData) (lists : List (List Receipt)) (before after : List CallerData) → AllByRecursion (IsNew k) before → AreAnswered lists before after → AllByRecursion (λ r. length k.log.past ≤ moment r) (in_one_list lists)
since_all k [] [] [] new a = tt
since_all k (rs ∷ lists) (c ∷ before) (d ∷ after) new a =
    all_append (λ r. length k.log.past ≤ moment r) rs (in_one_list lists)
    (all_map (IsBetween (length c.log.past) (length d.log.past)) (λ r. length k.log.past ≤ moment r) (λ r h. subst (λ past. length past ≤ moment r) new.0.1.past h.0) rs a.0.between) (since_all k lists before after new.1 a.1)
since_all k [] [] (d ∷ after) new a = absurd a
since_all k [] (c ∷ before) after new a = absurd a
since_all k (rs ∷ lists) [] after new a = absurd a
since_all k (rs ∷ lists) (c ∷ before) [] new a = absurd a

lengths : (lists : List (List Receipt)) (before after : List CallerData) → AreAnswered lists before after → length before ≡ length lists
lengths [] [] [] a = refl
lengths (rs ∷ lists) (c ∷ before) (d ∷ after) a = ap suc (lengths lists before after a.1)
lengths [] [] (d ∷ after) a = absurd a
lengths [] (c ∷ before) after a = absurd a
lengths (rs ∷ lists) [] after a = absurd a
lengths (rs ∷ lists) (c ∷ before) [] a = absurd a

split_length : (gives : List ℕ) (k : CallerData) → length (all_split_off gives k) ≡ length gives
split_length [] k = refl
split_length (give ∷ gives) k = ap suc (split_length gives (after_one_split give k))

-- none is above what is seen now
held_within : (start : State) (history : List Update) (nodes callers since : ℕ) (rs : List Receipt) → AllHold start history nodes callers since rs → AllByRecursion (λ r. moment r ≤ length history) rs
held_within start history nodes callers since [] h = tt
held_within start history nodes callers since (r ∷ rs) h = (h.0.within, held_within start history nodes callers (max since (moment r)) rs h.1)

within_all : (t : Terms) (past : List Update) (callers since : ℕ) (lists : List (List Receipt)) → AllByRecursion (IsRecord t past callers) (lists_since since lists) → AllByRecursion (λ r. moment r ≤ length past) (in_one_list lists)
within_all t past callers since [] h = tt
within_all t past callers since (rs ∷ lists) h =
    all_append (λ r. moment r ≤ length past) rs (in_one_list lists) (held_within _ past t.nodes callers since rs h.0.0) (within_all t past callers since lists h.1)

between_all : (low high : ℕ) (rs : List Receipt) → AllByRecursion (λ r. low ≤ moment r) rs → AllByRecursion (λ r. moment r ≤ high) rs → AllByRecursion (IsBetween low high) rs
between_all low high [] h i = tt
between_all low high (r ∷ rs) h i = ((h.0, i.0), between_all low high rs h.1 i.1)

pub after_round : (k : CallerData) (gives : List ℕ) (lists : List (List Receipt)) (after : List CallerData) → IsBetweenRounds k → AreAnswered lists (all_split_off gives k) after
    → IsWholeWhereAlone (after_joins after (after_splits gives k)).log → IsAfterRound lists k (after_joins after (after_splits gives k))
after_round k gives lists after b a whole =
    let before = all_split_off gives k in
    let m = after_splits gives k in
    let n : CallerData = after_joins after m in
    let f = forked gives k in
    let new = each_new k gives before (all_new gives k) in
    let g = gathered k lists before after m new a (subst (IsPrefix k.log.past) (sym f.past) ([], append-nil k.log.past)) in
    let alone : IsAlone n.log.lineage = record { whole = (let kept = f.share in let back = g.share in let all = b.alone.whole in omega (arith, kept, back, all)) } in
    let terms : n.log.terms ≡ k.log.terms = g.terms ∙ f.terms in
    let listed : List ReceiptList = lists_since (length k.log.past) lists in
    let joined : n.log.receipts.joined ≡ k.log.receipts.joined ++ listed = g.joined ∙ ap (λ (r : Receipts). r.joined ++ listed) f.receipts in
    let own : n.log.receipts.own ≡ [] = g.own ∙ (ap (λ (r : Receipts). r.own) f.receipts ∙ b.own) in
    let full = whole alone in
    let hold : AllByRecursion (IsRecord k.log.terms n.log.past (n.log.made + 1)) listed =
    all_behind (IsRecord k.log.terms n.log.past (n.log.made + 1)) k.log.receipts.joined listed
    (subst (λ (t : Terms). AllByRecursion (IsRecord t n.log.past (n.log.made + 1)) (k.log.receipts.joined ++ listed)) terms (subst (AllByRecursion (IsRecord n.log.terms n.log.past (n.log.made + 1))) joined full.receipts.joined)) in
    let fm = f.made in let gm = g.made in let sl = split_length gives k in let ll = lengths lists before after a in
    let before_lists = joined_lists k.log.receipts in
    let counts : made_count (in_one_list (joined_lists n.log.receipts)) ≡ length n.log.past = ap (λ more. made_count (more ++ in_one_list (joined_lists n.log.receipts))) (sym own) ∙ whole_counted n.log full in
    let counted : made_count (in_one_list before_lists) ≡ length k.log.past = ap (λ more. made_count (more ++ in_one_list before_lists)) (sym b.own) ∙ whole_counted k.log b.whole in
    let parts : made_count (in_one_list (joined_lists n.log.receipts)) ≡ made_count (in_one_list before_lists) + made_count (in_one_list lists) =
    ap (λ all. made_count (in_one_list all)) (ap (map (λ (c : ReceiptList). c.list)) joined ∙ both_lists k.log.receipts.joined (length k.log.past) lists) ∙ (ap made_count (lists_both before_lists lists) ∙ count_both (λ r. is_some (accepted r)) (in_one_list before_lists) (in_one_list lists)) in
    record {
      table = g.table ∙ f.table;
      terms = terms;
      between = record { alone = alone; own = own; idle = g.idle (f.idle b.idle); whole = full };
      begins = g.begins;
      joined = joined;
      made = omega (arith, fm, gm, sl, ll);
      hold = hold;
      bounds = between_all (length k.log.past) (length n.log.past) (in_one_list lists) (since_all k lists before after new a) (within_all k.log.terms n.log.past (n.log.made + 1) (length k.log.past) lists hold);
      count = omega (arith, counts, counted, parts);
    }
