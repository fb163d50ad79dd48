-- The code that makes a handle of parts moves the pointer, and what it owns goes with it. Assumes
-- `Logic`.
use mathlib.Core.Path.{◌≡◌, refl, sym, subst, ap}
use mathlib.Core.List.{List, [], ◌∷◌, ◌++◌}
use seplogic.Ra.Ura.{Ura}
use mir.Syntax.{Fn, tnil, tcons, local, value_local, ty_ptr, ty_struct, place, field, copy, rv_opd, aggregate, seq, assign, return}
use mir.Val.{Val}
use base.Logic.{ent, emp}
use base.Fml.{ftrue, fsep}
use contract.Monad.{fact}
use prog.Wp.{WpFn, Tables}
use sound.WpLaws.{WpFn-mono}
use types.Logic.{Logic}
use types.Kit.{Item, ‵, raw, ◌⊛◌, ◌$◌, ◌∵◌, !, qed, by, move, drop, join, split, fsplit, fjoin, suffices, done}
use types.Part.{whole, sub, agg}
use types.Run.{stop, fld, no_more, and_then, of_opd, returns, enter}
use types.ByLocal.{alloc_all, pass_all, free_all, look_at, get, get_in, sets}
use denote.Exit.{yes}
use denote.Memory.{lone}
use denote.RawPtr.{Ptr}
use denote.Signature.{Slot, plain}
use denote.Steps.{nothing}
use denote.Triple.Clauses.{Ended, Clauses, closing}
use denote.Triple.Spec.{Meets}
use denote.Triple.Walked.{says, Stays, stay_dropped, walk_of, ends_at, Goes-dropped, walk_Meets}
use Rattle.std.specs.Prelude.{Option, Some}
use Rattle.std_alloc.proofs.BoxSteps.Form.{D, word, box_typed}
use Rattle.std_alloc.proofs.BoxSteps.Steps.{box_out}
use Rattle.c_handle.proofs.HandleSteps.Form.{HandleType, row, held_by, heap_parts, as_box, pointer, plain_function, box_of}
use Rattle.c_handle.proofs.HandleSteps.Steps.{handle_in}

module _ (T : HandleType) where
  abbrev From : Slot 0
  From = plain (λ _. heap_parts T.value T.laws)

  -- `let Parts { ptr, alloc: _ } = parts; Handle { at: ptr as *mut u8 }`
  abbrev pub function : Fn
  function = plain_function 1 (local (ty_struct T.struct.name (tcons ty_ptr tnil)) value_local ∷ local (lone (heap_parts T.value T.laws).mir) value_local ∷ local ty_ptr value_local ∷ local ty_ptr value_local ∷ [])
      (seq (assign (place 2 []) (rv_opd (copy (place 1 (field 0 ∷ []))))) (seq (assign (place 3 []) (rv_opd (copy (place 2 []))))
      (seq (assign (place 0 []) (aggregate (copy (place 3 []) ∷ []))) return)))

  abbrev pub ended : Ended
  ended = record { signature = record { lifetimes = 0; outlives = []; params = From ∷ []; result = plain (λ _. row T) }; kept = (yes, tt) }

  abbrev stayed : Stays ended.signature.params ended.kept
  stayed = (stay_dropped From yes, tt)

  module _ {M : Type 1} {𝓤 : Ura M} (𝓛 : Logic 𝓤) where
    open 𝓛 use {H}

    abbrev pub clauses : Clauses 𝓤 ended
    clauses κs a = record { ghost = Unit {0}; requires = λ _. emp 𝓤; ensures = λ _ r _. fact 𝓤 (held_by T r ≡ Some a.0.value) }

    module _ (𝓣 : Tables 𝓤 𝓛.H) where
      walk : (z : (walk_of 𝓛 ended stayed clauses).Ghost)
          → ent 𝓤 ((walk_of 𝓛 ended stayed clauses).pre z) (WpFn 𝓤 H 𝓣.C 𝓣.Λ function (z.0.4.0 ++ []) ((walk_of 𝓛 ended stayed clauses).post z))
      walk z =
          let Post = (walk_of 𝓛 ended stayed clauses).post z in
          let p = z.0.3.0 in
          let v : D (box_of T) = as_box T.value T.laws p in
          let made : (row T).Denot = T.made v.ptr (Some v.value) in
          qed 𝓛 ((‵ ftrue ⊛ ‵ (fsep ((heap_parts T.value T.laws).own_val p z.0.4.0) ftrue)) ∷ raw (emp 𝓤) ∷ []) ∵ split ! $ drop ! $ fsplit ! $
          box_out (box_of T) ! v z.0.4.0 (λ b o hv e ws fa. move ! (2 ∷ []) $ drop ! $ handle_in T ! v.ptr b o v.value e $
          move ! (1 ∷ 2 ∷ []) $ drop ! $ drop ! $
          let w = word (box_of T) hv b o in
          let Γ : List (Item 𝓤) = ‵ ((row T).own_val made (pointer b o ∷ [])) ∷ [] in
          by ! (subst (λ (us : List Val). ent 𝓤 (types.Kit.⋆ 𝓛 Γ) (WpFn 𝓤 H 𝓣.C 𝓣.Λ function (us ++ []) Post)) (sym ws)
          (qed 𝓛 Γ ∵ enter ! 𝓣.C 𝓣.Λ function (w ∷ []) _ $ alloc_all ! (λ ls. pass_all ! refl (box_typed (box_of T) hv b o fa, tt) $
          sets ! (of_opd ! (get_in ! (fld ! refl (stop !)) (sub ! 0 refl (whole !)))) refl (tt, tt) $ sets ! (of_opd ! (get ! refl)) refl (tt, tt) $
          sets ! (agg ! (and_then ! (get ! refl) (no_more !))) refl (tt, (tt, tt)) $ returns ! (look_at ! 0 refl) $ free_all ! refl $
          suffices ! _ (ends_at 𝓛 ended stayed clauses z (pointer b o) made (tt, tt) (tt, tt)) $ says ! (ap (λ (d : Ptr × Option T.value.Denot). d.1) (T.is_made v.ptr (Some v.value))) $
          nothing ! $ nothing ! $ fjoin ! $ join ! $ nothing ! $ join ! $ done !))))

      pub meets : Meets 𝓛 ended.signature (WpFn 𝓤 𝓛.H 𝓣.C 𝓣.Λ function) (closing 𝓛 ended clauses)
      meets = walk_Meets 𝓛 ended stayed (Goes-dropped 𝓛 0 From yes (λ κs x f. refl), tt) clauses (WpFn 𝓤 𝓛.H 𝓣.C 𝓣.Λ function) (WpFn-mono 𝓤 𝓛.H 𝓛.laws 𝓣 function) walk
