-- A type of handles: a struct of one pointer, which owns what a box on the heap owns, or nothing.
--     heap_box, heap_parts     a box on the heap of what a handle leads to, and its parts as a row
--     handle_own               what a handle owns at its machine value
--     pointer                  that value, where it leads to something
--     HandleType, handles_to   the type of what its handles lead to, the struct, and its two fields
--     box_of                   a box of what its handles lead to
--     row                      the struct's own row, by conversion where the struct is written out
--     plain_function           a function of so many parameters, without lifetimes and type parameters
use mathlib.Core.Path.{◌≡◌}
use mathlib.Core.List.{List, [], ◌∷◌}
use Prim.Native.Nat.{ℕ}
use mir.Syntax.{Sym, Fn, Local, Body, impl, tnil, dnil}
use mir.Val.{Val, vptr, vstruct, vnil, vcons}
use base.Fml.{Fml, fsep}
use denote.Exit.{under, hidden}
use denote.Param.{param}
use denote.Param.Laws.{Laws}
use denote.RattleType.{RattleType}
use denote.RawPtr.{Ptr, RawPtr}
use denote.Struct.Owning.{Owning, row as owning_row}
use denote.Struct.Struct.{Shape, Struct, exits_of}
use Rattle.std.specs.Prelude.{Option}
use Rattle.std_alloc.proofs.BoxSteps.Form.{Bx, B, D}
use Rattle.std_heap.specs.contracts.Global as Heap
use Rattle.std_heap.specs.contracts.GlobalAllocator.TheImpl.{ghosts, dict}
use Rattle.std_heap.proofs.Global.TheLaws as heap
use Rattle.c_handle.specs.contracts.parts.Parts as Parts
use Rattle.c_handle.specs.Handles.{handle_owns}

abbrev pub heap_box : (R : RattleType) → Laws R → Bx
heap_box R L = record { row = R; laws = L; al = record { row = Heap.the_row; laws = heap.the_row_laws; g = ghosts; d = dict; drops = impl [] tnil dnil } }

-- own_val as the box's, since a struct that is written out has it so by conversion
abbrev pub heap_parts : (R : RattleType) → Laws R → RattleType
heap_parts R L = record (Parts.the_row R Heap.the_row ghosts) { own_val = λ p vs. (B (heap_box R L)).own_val (record { ptr = p.ptr; alloc = p.alloc; value = p.value }) vs }

abbrev pub as_box : (R : RattleType) (L : Laws R) → (heap_parts R L).Denot → D (heap_box R L)
as_box R L p = record { ptr = p.ptr; alloc = p.alloc; value = p.value }

abbrev pub shape_of : Sym → Shape
shape_of name = record { name = name; args = []; types = []; fields = RawPtr ∷ [] }

abbrev pub handle_own : (name : Sym) (R : RattleType) → Ptr → Option R.Denot → List Val → Fml
handle_own name R at held vs = fsep ((Struct (shape_of name)).own_val (at, tt) vs) (handle_owns R at held)

abbrev pub pointer : ℕ → ℕ → Val
pointer b o = vstruct (vcons (vptr b o) vnil)

abbrev pub plain_function : ℕ → List Local → Body → Fn
plain_function params locals body = record { lifetimes = 0; outlives = []; ty_params = []; givens = 0; params = params; locals = locals; body = body }

pub record HandleType : Type 2 where
  pub value : RattleType
  pub laws : Laws value
  pub struct : Owning
  pub fields : struct.D → Ptr × Option value.Denot
  pub made : Ptr → Option value.Denot → struct.D
  pub is_made : (p : Ptr) (h : Option value.Denot) → fields (made p h) ≡ (p, h)

abbrev pub handles_to : (R : RattleType) → Laws R → (S : Owning) (fields : S.D → Ptr × Option R.Denot) (made : Ptr → Option R.Denot → S.D)
    → ((p : Ptr) (h : Option R.Denot) → fields (made p h) ≡ (p, h)) → HandleType
handles_to R L S fields made is_made = record { value = R; laws = L; struct = S; fields = fields; made = made; is_made = is_made }

abbrev pub box_of : HandleType → Bx
box_of T = heap_box T.value T.laws

module _ (T : HandleType) where
  abbrev pub pointer_of : T.struct.D → Ptr
  pointer_of d = (T.fields d).0

  abbrev pub held_by : T.struct.D → Option T.value.Denot
  held_by d = (T.fields d).1

  abbrev pub row : RattleType
  row = record (owning_row T.struct) {
    own_val = λ d vs. handle_own T.struct.name (param 0 T.value) (pointer_of d) (held_by d) vs;
    exit = λ k. hidden (under (λ d. (pointer_of d, tt)) (exits_of k (RawPtr ∷ [])));
  }
