-- What is kept of a course stays, as states and numbers come after those that were there.
use Rattle.std.proofs.Common.{◌≡◌, ◌≢◌, ℕ, zero, suc, ◌+◌, ◌-◌, ◌<◌, List, [], ◌∷◌, ◌++◌, length, get_or, set, drop, map, Option, Some, None, refl, sym, ap, subst, ◌∙◌, arith, length-append, append_assoc, get_or-set_same, get_or-set_other, inl, inr}
use Rattle.std.specs.Prelude.{All}
use Rattle.std.proofs.lemmas.Bool.{cases_lt}
use Rattle.std.proofs.lemmas.List.{get_or_append_left, get_or-map, length-map}
use Rattle.std.proofs.Math.Seq.{drop-cons, get_or-append_seam}
use Rattle.frame_parse.specs.Instructions.{PlacedInstruction}
use Rattle.frame_rows.specs.declared.placed_row.PlacedRow.{PlacedRow}
use Rattle.frame_rows.specs.Rows.{applied, unset}
use Rattle.row_table.specs.declared.transitions.Transition.{Transition}
use Rattle.row_table.specs.Courses.{CourseData, Standing, course, state_in, standing, AreStates, HaveRowNumbers, IsCourse}
use Rattle.row_table.specs.Tables.{IsNumbered}
use Rattle.row_table.specs.Transitions.{IsNumberOf, IsLonger, IsTransition}

-- ---- more states

is_longer : (rows more : List PlacedRow) → length (rows ++ more) ≡ length rows + length more
is_longer rows more = length-append rows more

pub state_stays : (rows more : List PlacedRow) (number : ℕ) → number < length rows → state_in (rows ++ more) number ≡ state_in rows number
state_stays rows more number lt = get_or_append_left rows more unset number lt

pub number_stays : (rows more : List PlacedRow) (number : ℕ) (row : PlacedRow) → IsNumberOf rows number row → IsNumberOf (rows ++ more) number row
number_stays rows more number row is = (let lt = is.0 in omega (arith, lt, is_longer rows more), state_stays rows more number is.0 ∙ is.1)

pub within_stays : (rows more : List PlacedRow) (kept : List ℕ) → All (λ number. number < length rows) kept → All (λ number. number < length (rows ++ more)) kept
within_stays rows more kept all = λ k d within. let lt = all k d within in omega (arith, lt, is_longer rows more)

pub kept_stay : (rows more : List PlacedRow) (kept : List ℕ) → All (λ number. number < length rows) kept → map (state_in (rows ++ more)) kept ≡ map (state_in rows) kept
kept_stay rows more [] all = refl
kept_stay rows more (number ∷ others) all =
    let first = state_stays rows more number (all 0 0 (omega arith)) in
    let rest = kept_stay rows more others (λ k d within. all (suc k) d (omega (arith, within))) in
    ap (λ (row : PlacedRow). row ∷ map (state_in (rows ++ more)) others) first ∙ ap (λ (left : List PlacedRow). state_in rows number ∷ left) rest

transition_stays : (rows more : List PlacedRow) (t : Transition) → IsTransition rows t → IsTransition (rows ++ more) t
transition_stays rows more t is =
    let same : applied (state_in (rows ++ more) t.base) (state_in (rows ++ more) t.from) t.instruction ≡ applied (state_in rows t.base) (state_in rows t.from) t.instruction =
    ap (λ (row : PlacedRow). applied row (state_in (rows ++ more) t.from) t.instruction) (state_stays rows more t.base is.base)
    ∙ ap (λ (row : PlacedRow). applied (state_in rows t.base) row t.instruction) (state_stays rows more t.from is.from) in
    record {
      base = (let lt = is.base in omega (arith, lt, is_longer rows more));
      from = (let lt = is.from in omega (arith, lt, is_longer rows more));
      to = subst (λ (row : PlacedRow). IsNumberOf (rows ++ more) t.to row) (sym same) (number_stays rows more t.to _ is.to);
    }

abbrev with_states : CourseData → List PlacedRow → CourseData
with_states c rows = record { distinct = c.distinct; states = rows; base = c.base; here = c.here; kept = c.kept }

longer_by : (c : CourseData) (numbers : List (Option ℕ)) (met : List Transition) (more : List PlacedRow) → IsCourse c numbers met → IsCourse (with_states c (c.states ++ more)) numbers met
longer_by c numbers met more is = record {
  states = record {
    base = (let lt = is.states.base in omega (arith, lt, is_longer c.states more));
    here = (let lt = is.states.here in omega (arith, lt, is_longer c.states more));
    kept = within_stays c.states more c.kept is.states.kept;
  };
  transitions = λ k d within. transition_stays c.states more (get_or met k d) (is.transitions k d within);
  numbered = λ state number known.
      let was = is.numbered state number known in (
        let lt = was.0 in omega (arith, lt, is_longer c.states more),
        subst (λ (row : PlacedRow). IsNumberOf c.distinct number row) (sym (state_stays c.states more state was.0)) was.1,
      );
}

pub longer_course : (c : CourseData) (numbers : List (Option ℕ)) (met : List Transition) (states : List PlacedRow) → IsCourse c numbers met → IsLonger c.states states → IsCourse (with_states c states) numbers met
longer_course c numbers met states is longer = subst (λ (rows : List PlacedRow). IsCourse (with_states c rows) numbers met) (sym longer.1) (longer_by c numbers met longer.0 is)

abbrev standing_of : PlacedRow → PlacedRow → List PlacedRow → Standing
standing_of base row kept = record { base = base; row = row; kept = kept }

pub stands_still : (c : CourseData) (states : List PlacedRow) → AreStates c → IsLonger c.states states → standing (with_states c states) ≡ standing c
stands_still c states are longer =
    let more = longer.0 in
    subst (λ (rows : List PlacedRow). standing (with_states c rows) ≡ standing c) (sym longer.1)
    (ap (λ (row : PlacedRow). standing_of row (state_in (c.states ++ more) c.here) (map (state_in (c.states ++ more)) c.kept)) (state_stays c.states more c.base are.base)
    ∙ ap (λ (row : PlacedRow). standing_of (state_in c.states c.base) row (map (state_in (c.states ++ more)) c.kept)) (state_stays c.states more c.here are.here)
    ∙ ap (λ (kept : List PlacedRow). standing_of (state_in c.states c.base) (state_in c.states c.here) kept) (kept_stay c.states more c.kept are.kept))

-- ---- another state

abbrev with_here : CourseData → ℕ → CourseData
with_here c here = record { distinct = c.distinct; states = c.states; base = c.base; here = here; kept = c.kept }

pub moved_course : (c : CourseData) (numbers : List (Option ℕ)) (met : List Transition) (here : ℕ) → IsCourse c numbers met → here < length c.states → IsCourse (with_here c here) numbers met
moved_course c numbers met here is lt = record {
  states = record { base = is.states.base; here = lt; kept = is.states.kept };
  transitions = is.transitions;
  numbered = is.numbered;
}

-- ---- numbers

last_of_none : (numbers : List (Option ℕ)) (k : ℕ) → get_or (numbers ++ None ∷ []) k None ≡ get_or numbers k None
last_of_none [] zero = refl
last_of_none [] (suc k) = refl
last_of_none (x ∷ others) zero = refl
last_of_none (x ∷ others) (suc k) = last_of_none others k

pub none_more : (distinct states : List PlacedRow) (numbers : List (Option ℕ)) → HaveRowNumbers distinct states numbers → HaveRowNumbers distinct states (numbers ++ None ∷ [])
none_more distinct states numbers are = λ state number known. are state number (sym (last_of_none numbers state) ∙ known)

pub more_distinct : (old new states : List PlacedRow) (numbers : List (Option ℕ)) (row : PlacedRow) (number : ℕ) → IsNumbered old row number new → HaveRowNumbers old states numbers → HaveRowNumbers new states numbers
more_distinct old new states numbers row number is are = λ state n known.
    let was = are state n known in
    (was.0, subst (λ (rows : List PlacedRow). IsNumberOf rows n (state_in states state)) (sym is.are) (number_stays old is.more n (state_in states state) was.1))

pub one_noted : (distinct states : List PlacedRow) (numbers : List (Option ℕ)) (state number : ℕ) → HaveRowNumbers distinct states numbers → state < length numbers → state < length states → IsNumberOf distinct number (state_in states state) → HaveRowNumbers distinct states (set numbers state (Some number))
one_noted distinct states numbers state number are room there is = λ k n known.
    let other : k ≢ state → (k < length states) × IsNumberOf distinct n (state_in states k) = λ apart. are k n (sym (get_or-set_other numbers state k (Some number) None apart) ∙ known) in
    elim (cases_lt k state) [
      | inl less ↦ other (λ same. omega (arith, less, same))
      | inr more ↦
          elim (cases_lt state k) [
            | inl above ↦ other (λ same. omega (arith, above, same))
            | inr up ↦
                let same : state ≡ k = omega arith in
                let noted : Some n ≡ Some number = sym known ∙ ap (λ (i : ℕ). get_or (set numbers state (Some number)) i None) (sym same) ∙ get_or-set_same numbers state (Some number) None room in
                let told : number ≡ n = cc in
                let at_n : (state < length states) × IsNumberOf distinct n (state_in states state) = subst (λ (i : ℕ). (state < length states) × IsNumberOf distinct i (state_in states state)) told (there, is) in
                subst (λ (i : ℕ). (i < length states) × IsNumberOf distinct n (state_in states i)) same at_n
          ]
    ]

-- ---- remembered states, copied behind others

pub none_copied : (states : List PlacedRow) (kept : List ℕ) → [] ≡ drop (length kept) (map (state_in states) kept)
none_copied states [] = refl
none_copied states (number ∷ others) = none_copied states others

pub one_copied : (rows states : List PlacedRow) (kept copied : List ℕ) (left : ℕ) (row : PlacedRow) → All (λ number. number < length rows) copied → map (state_in rows) copied ≡ drop (suc left) (map (state_in states) kept) → left < length kept → row ≡ state_in states (get_or kept left 0)
    → map (state_in (rows ++ row ∷ [])) (length rows ∷ copied) ≡ drop left (map (state_in states) kept)
one_copied rows states kept copied left row within told lt is =
    let all = map (state_in states) kept in
    let first : state_in (rows ++ row ∷ []) (length rows) ≡ row = get_or-append_seam rows row [] unset in
    let there : get_or all left unset ≡ state_in states (get_or kept left 0) = get_or-map (state_in states) kept left 0 unset lt in
    let others : map (state_in (rows ++ row ∷ [])) copied ≡ drop (suc left) all = kept_stay rows (row ∷ []) copied within ∙ told in
    ap (λ (k : PlacedRow). k ∷ map (state_in (rows ++ row ∷ [])) copied) (first ∙ is ∙ sym there)
    ∙ ap (λ (k : List PlacedRow). get_or all left unset ∷ k) others
    ∙ sym (drop-cons all left unset (omega (arith, lt, length-map kept (state_in states))))

pub one_within : (rows : List PlacedRow) (row : PlacedRow) (copied : List ℕ) → All (λ number. number < length rows) copied → All (λ number. number < length (rows ++ row ∷ [])) (length rows ∷ copied)
one_within rows row copied within = by
  where
    by : All (λ number. number < length (rows ++ row ∷ [])) (length rows ∷ copied)
    by zero d inside = omega (arith, is_longer rows (row ∷ []))
    by (suc k) d inside = within_stays rows (row ∷ []) copied within k d (omega (arith, inside))

-- one of those that were left is copied
pub record HasCopied (old rows states : List PlacedRow) (kept copied : List ℕ) (left : ℕ) : Type 0 where
  pub longer : IsLonger old rows
  pub count : length rows + left ≡ length old + length kept
  pub copies : length copied + left ≡ length kept
  pub within : All (λ number. number < length rows) copied
  pub told : map (state_in rows) copied ≡ drop left (map (state_in states) kept)

pub copied_next : (old rows new states : List PlacedRow) (kept copied made : List ℕ) (left place number : ℕ) (row : PlacedRow) → HasCopied old rows states kept copied left → 0 < left → place ≡ length rows → number ≡ get_or kept (left - 1) 0 → row ≡ state_in states number → new ≡ rows ++ row ∷ [] → made ≡ place ∷ copied
    → HasCopied old new states kept made (left - 1)
copied_next old rows new states kept copied made left place number row was some at of is grown made_is =
    let m = left - 1 in
    let one : left ≡ suc m = omega arith in
    let told : map (state_in rows) copied ≡ drop (suc m) (map (state_in states) kept) = subst (λ (i : ℕ). map (state_in rows) copied ≡ drop i (map (state_in states) kept)) one was.told in
    let inside : m < length kept = omega (arith, was.copies) in
    let row_is : row ≡ state_in states (get_or kept m 0) = is ∙ ap (state_in states) of in
    let new_copied : made ≡ length rows ∷ copied = made_is ∙ ap (λ (i : ℕ). i ∷ copied) at in
    let longer = is_longer rows (row ∷ []) in
    let here : HasCopied old (rows ++ row ∷ []) states kept (length rows ∷ copied) m = record {
      longer = (was.longer.0 ++ row ∷ [], ap (λ (l : List PlacedRow). l ++ row ∷ []) was.longer.1 ∙ append_assoc old was.longer.0 (row ∷ []));
      count = omega (arith, was.count, longer);
      copies = omega (arith, was.copies);
      within = one_within rows row copied was.within;
      told = one_copied rows states kept copied m row was.within told inside row_is;
    } in
    let at_new : HasCopied old new states kept (length rows ∷ copied) m = subst (λ (l : List PlacedRow). HasCopied old l states kept (length rows ∷ copied) m) (sym grown) here in
    subst (λ (l : List ℕ). HasCopied old new states kept l m) (sym new_copied) at_new

-- ---- a course

module _ (distinct states : List PlacedRow) (base here : ℕ) (kept : List ℕ) (numbers : List (Option ℕ)) (met : List Transition) (is : IsCourse (course distinct states base here kept) numbers met) where
  -- back at the state that was remembered last
  pub restored_course : (number : ℕ) (others : List ℕ) → kept ≡ number ∷ others → IsCourse (course distinct states base number others) numbers met
  restored_course number others are =
      let all : All (λ n. n < length states) (number ∷ others) = subst (λ (l : List ℕ). All (λ n. n < length states) l) are is.states.kept in record {
        states = record {
          base = is.states.base;
          here = all 0 0 (omega arith);
          kept = λ k d within. all (suc k) d (omega (arith, within));
        };
        transitions = is.transitions;
        numbered = is.numbered;
      }

  -- at a state that is the base
  pub begun_course : (new : List PlacedRow) (state : ℕ) (row : PlacedRow) → IsLonger states new → IsNumberOf new state row → IsCourse (course distinct new state state kept) numbers met
  begun_course new state row longer number =
      let then = longer_course (course distinct states base here kept) numbers met new is longer in record {
        states = record { base = number.0; here = number.0; kept = then.states.kept };
        transitions = then.transitions;
        numbered = then.numbered;
      }

  -- where a row has its number, the numbers that are told anew
  pub numbered_course : (new : List PlacedRow) (row : PlacedRow) (number : ℕ) (more : List (Option ℕ)) → IsNumbered distinct row number new
      → (HaveRowNumbers new states numbers → HaveRowNumbers new states more) → IsCourse (course new states base here kept) more met
  numbered_course new row number more numbered noted = record {
    states = record { base = is.states.base; here = is.states.here; kept = is.states.kept };
    transitions = is.transitions;
    numbered = noted (more_distinct distinct new states numbers row number numbered is.numbered);
  }

  -- what an instruction makes of the row here is a state
  module _ (new : List PlacedRow) (i : PlacedInstruction) (to : ℕ) (base_row row next : PlacedRow) (longer : IsLonger states new) (base_is : base_row ≡ state_in states base) (row_is : row ≡ state_in states here) (next_is : next ≡ applied base_row row i) (number : IsNumberOf new to next) where
    then : IsCourse (course distinct new base here kept) numbers met
    then = longer_course (course distinct states base here kept) numbers met new is longer

    still : standing (course distinct new base here kept) ≡ standing (course distinct states base here kept)
    still = stands_still (course distinct states base here kept) new is.states longer

    worked_out : IsTransition new (record { base = base; from = here; instruction = i; to = to })
    worked_out =
        let made : next ≡ applied (state_in new base) (state_in new here) i =
        next_is
        ∙ ap (λ (k : PlacedRow). applied k row i) (base_is ∙ sym (ap (λ (s : Standing). s.base) still))
        ∙ ap (λ (k : PlacedRow). applied (state_in new base) k i) (row_is ∙ sym (ap (λ (s : Standing). s.row) still)) in
        record {
          base = then.states.base;
          from = then.states.here;
          to = subst (λ (k : PlacedRow). IsNumberOf new to k) made number;
        }

    abbrev Keeps : List Transition → Type 0
    Keeps more = All (IsTransition new) met → IsTransition new (record { base = base; from = here; instruction = i; to = to }) → All (IsTransition new) more

    pub stayed_course : (more : List Transition) → Keeps more → IsCourse (course distinct new base here kept) numbers more
    stayed_course more keeps = record { states = then.states; transitions = keeps then.transitions worked_out; numbered = then.numbered }

    pub went_course : (more : List Transition) → Keeps more → IsCourse (course distinct new base to kept) numbers more
    went_course more keeps = record {
      states = record { base = then.states.base; here = number.0; kept = then.states.kept };
      transitions = keeps then.transitions worked_out;
      numbered = then.numbered;
    }

    pub went : (old : CourseData) → standing (course distinct states base here kept) ≡ standing old → standing (course distinct new base to kept) ≡ standing_of (standing old).base (applied (standing old).base (standing old).row i) (standing old).kept
    went old same =
        let made : next ≡ applied (standing old).base (standing old).row i =
        next_is
        ∙ ap (λ (k : PlacedRow). applied k row i) (base_is ∙ ap (λ (s : Standing). s.base) same)
        ∙ ap (λ (k : PlacedRow). applied (standing old).base k i) (row_is ∙ ap (λ (s : Standing). s.row) same) in
        ap (λ (s : Standing). standing_of s.base (state_in new to) s.kept) (still ∙ same)
        ∙ ap (λ (k : PlacedRow). standing_of (standing old).base k (standing old).kept) (number.1 ∙ made)

no_more : (states : List PlacedRow) (kept : List ℕ) → map (state_in states) kept ≡ [] → kept ≡ []
no_more states [] are = refl
no_more states (number ∷ others) are = absurd cc

pub begun : (distinct states new : List PlacedRow) (base here state : ℕ) (kept : List ℕ) (row : PlacedRow) (now old : CourseData) → course distinct states base here kept ≡ now → standing now ≡ standing old → old.kept ≡ [] → IsNumberOf new state row
    → standing (course distinct new state state kept) ≡ standing_of row row []
begun distinct states new base here state kept row now old view same none number =
    let told : map (state_in states) kept ≡ map (state_in old.states) old.kept = ap (λ (c : CourseData). map (state_in c.states) c.kept) view ∙ ap (λ (s : Standing). s.kept) same in
    let empty : kept ≡ [] = no_more states kept (told ∙ ap (map (state_in old.states)) none) in
    ap (λ (l : List ℕ). standing (course distinct new state state l)) empty
    ∙ ap (λ (k : PlacedRow). standing_of k k []) number.1
