-- The code that makes parts of a handle moves the pointer, and what it owns goes with it. Assumes
-- `Logic`.
use mathlib.Core.Path.{◌≡◌, refl, sym, subst}
use mathlib.Core.List.{List, [], ◌∷◌, ◌++◌}
use seplogic.Ra.Ura.{Ura}
use mir.Syntax.{Fn, tnil, tcons, local, value_local, ty_ptr, ty_struct, place, field, copy, rv_opd, aggregate, seq, assign, return}
use mir.Val.{Val}
use base.Logic.{ent}
use base.Fml.{ftrue, fsep}
use contract.Monad.{fact}
use prog.Wp.{WpFn, Tables}
use sound.WpLaws.{WpFn-mono}
use types.Logic.{Logic}
use types.Kit.{Item, ‵, raw, ◌⊛◌, ◌$◌, ◌∵◌, !, qed, by, move, drop, join, split, fsplit, fjoin, suffices, done}
use types.Part.{whole, sub, agg}
use types.Run.{stop, fld, no_more, and_then, of_opd, returns, enter}
use types.ByLocal.{alloc_all, pass_all, free_all, look_at, get, get_in, sets}
use denote.Exit.{yes}
use denote.Memory.{lone}
use denote.Signature.{Slot, plain}
use denote.Steps.{heard, nothing}
use denote.Triple.Clauses.{Ended, Clauses, closing}
use denote.Triple.Spec.{Meets}
use denote.Triple.Walked.{says, Stays, stay_dropped, walk_of, ends_at, Goes-dropped, walk_Meets}
use Rattle.core.proofs.alloc.Calls.{handle_tells}
use Rattle.std.specs.Prelude.{Some}
use Rattle.std_alloc.proofs.BoxSteps.Form.{D, word, box_typed}
use Rattle.std_alloc.proofs.BoxSteps.Steps.{box_in}
use Rattle.std_heap.specs.contracts.Global as Heap
use Rattle.c_handle.proofs.HandleSteps.Form.{HandleType, row, held_by, pointer_of, heap_parts, as_box, pointer, plain_function, box_of}
use Rattle.c_handle.proofs.HandleSteps.Steps.{handle_out}

module _ (T : HandleType) where
  abbrev FromHandle : Slot 0
  FromHandle = plain (λ _. row T)

  abbrev FromHeap : Slot 0
  FromHeap = plain (λ _. Heap.the_row)

  -- `let Handle { at } = self; Parts { ptr: at as *mut T, alloc }`
  abbrev pub function : Fn
  function = plain_function 2 (local (lone (heap_parts T.value T.laws).mir) value_local ∷ local (ty_struct T.struct.name (tcons ty_ptr tnil)) value_local ∷ local (lone Heap.the_row.mir) value_local ∷ local ty_ptr value_local ∷ local ty_ptr value_local ∷ [])
      (seq (assign (place 3 []) (rv_opd (copy (place 1 (field 0 ∷ []))))) (seq (assign (place 4 []) (rv_opd (copy (place 3 []))))
      (seq (assign (place 0 []) (aggregate (copy (place 4 []) ∷ copy (place 2 []) ∷ []))) return)))

  abbrev pub ended : Ended
  ended = record { signature = record { lifetimes = 0; outlives = []; params = FromHandle ∷ FromHeap ∷ []; result = plain (λ _. heap_parts T.value T.laws) }; kept = (yes, (yes, tt)) }

  abbrev stayed : Stays ended.signature.params ended.kept
  stayed = (stay_dropped FromHandle yes, (stay_dropped FromHeap yes, tt))

  module _ {M : Type 1} {𝓤 : Ura M} (𝓛 : Logic 𝓤) where
    open 𝓛 use {H}

    abbrev pub clauses : Clauses 𝓤 ended
    clauses κs a = record { ghost = Unit {0}; requires = λ _. fact 𝓤 ((x : T.value.Denot) × (held_by T a.0 ≡ Some x)); ensures = λ _ r _. fact 𝓤 (held_by T a.0 ≡ Some r.value) }

    module _ (𝓣 : Tables 𝓤 𝓛.H) where
      walk : (z : (walk_of 𝓛 ended stayed clauses).Ghost)
          → ent 𝓤 ((walk_of 𝓛 ended stayed clauses).pre z) (WpFn 𝓤 H 𝓣.C 𝓣.Λ function (z.0.4.0 ++ (z.0.4.1.0 ++ [])) ((walk_of 𝓛 ended stayed clauses).post z))
      walk z =
          let Post = (walk_of 𝓛 ended stayed clauses).post z in
          let self = z.0.3.0 in let alloc = z.0.3.1.0 in
          qed 𝓛 ((‵ ftrue ⊛ ‵ (fsep ((row T).own_val self z.0.4.0) (fsep (Heap.the_row.own_val alloc z.0.4.1.0) ftrue))) ∷ raw (fact 𝓤 ((x : T.value.Denot) × (held_by T self ≡ Some x))) ∷ []) ∵
          move ! (1 ∷ []) $ heard ! ((x : T.value.Denot) × (held_by T self ≡ Some x)) (λ has. split ! $ drop ! $ fsplit ! $
          let made : (heap_parts T.value T.laws).Denot = record { ptr = pointer_of T self; alloc = alloc; value = has.0 } in
          let v : D (box_of T) = as_box T.value T.laws made in
          handle_out T ! self z.0.4.0 has.0 has.1 (λ b o e ws. move ! (2 ∷ []) $ fsplit ! $ handle_tells (box_of T).al ! alloc z.0.4.1.0 (λ hv ea fa.
          -- [the heap; true; the value; the right to free it]
          move ! (2 ∷ 3 ∷ 0 ∷ []) $ box_in (box_of T) ! v b o v.value e refl $
          let w = word (box_of T) hv b o in
          move ! (1 ∷ []) $ drop ! $
          let Γ : List (Item 𝓤) = ‵ ((heap_parts T.value T.laws).own_val made (w ∷ [])) ∷ [] in
          by ! (subst (λ (us : List Val). ent 𝓤 (types.Kit.⋆ 𝓛 Γ) (WpFn 𝓤 H 𝓣.C 𝓣.Λ function (us ++ (z.0.4.1.0 ++ [])) Post)) (sym ws)
          (subst (λ (us : List Val). ent 𝓤 (types.Kit.⋆ 𝓛 Γ) (WpFn 𝓤 H 𝓣.C 𝓣.Λ function ((pointer b o ∷ []) ++ (us ++ [])) Post)) (sym ea)
          (qed 𝓛 Γ ∵ enter ! 𝓣.C 𝓣.Λ function (pointer b o ∷ hv ∷ []) _ $ alloc_all ! (λ ls. pass_all ! refl ((tt, (tt, tt)), (fa, tt)) $
          sets ! (of_opd ! (get_in ! (fld ! refl (stop !)) (sub ! 0 refl (whole !)))) refl (tt, tt) $ sets ! (of_opd ! (get ! refl)) refl (tt, tt) $
          sets ! (agg ! (and_then ! (get ! refl) (and_then ! (get ! refl) (no_more !)))) refl (box_typed (box_of T) hv b o fa) $ returns ! (look_at ! 0 refl) $ free_all ! refl $
          suffices ! _ (ends_at 𝓛 ended stayed clauses z w made (tt, (tt, tt)) (tt, (tt, tt))) $ says ! has.1 $
          nothing ! $ nothing ! $ fjoin ! $ nothing ! $ fjoin ! $ join ! $ nothing ! $ join ! $ done !)))))))

      pub meets : Meets 𝓛 ended.signature (WpFn 𝓤 𝓛.H 𝓣.C 𝓣.Λ function) (closing 𝓛 ended clauses)
      meets = walk_Meets 𝓛 ended stayed (Goes-dropped 𝓛 0 FromHandle yes (λ κs x f. refl), (Goes-dropped 𝓛 0 FromHeap yes (λ κs x f. refl), tt)) clauses (WpFn 𝓤 𝓛.H 𝓣.C 𝓣.Λ function) (WpFn-mono 𝓤 𝓛.H 𝓛.laws 𝓣 function) walk
