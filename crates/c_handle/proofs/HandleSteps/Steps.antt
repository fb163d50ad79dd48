-- A handle that leads to something owns what a box of that owns, and its machine value is the box's
-- pointer. Assumes `Logic`.
--     handle_out     the handle is [what it leads to in memory; the right to free it]
--     handle_in      the way back
use mathlib.Core.Path.{◌≡◌, refl, sym, ap, subst}
use Prim.Native.Nat.{ℕ}
use mathlib.Core.List.{List, [], ◌∷◌, ◌++◌}
use seplogic.Ra.Ura.{Ura}
use mir.Raw.{raw as bare}
use mir.Val.{Val, vptr, vstruct, of_list}
use base.Fraction.{full_share}
use base.Logic.{fst∗, never}
use types.Logic.{Logic, sem}
use types.Kit.{Goal, Step, step, Seq, Item, ‵, ◌$◌, drop, rewrite, fsplit, fjoin, fpick, fpack, feq_l, feq_i}
use denote.RattleType.{Valss}
use denote.Memory.{part_at}
use denote.RawPtr.{Ptr, RawPtr, block_ptr, ptr_val, in_a_block, null_ptr}
use denote.Steps.{nothing}
use denote.Struct.Struct.{within}
use Rattle.std.specs.Prelude.{Option, Some}
use Rattle.std_alloc.specs.Box.Ownership.{box_owns}
use Rattle.std_alloc.proofs.BoxSteps.Form.{R, τ}
use Rattle.c_handle.specs.Handles.{frees_block, handle_owns}
use Rattle.c_handle.proofs.HandleSteps.Form.{HandleType, row, held_by, pointer_of, box_of, handle_own, shape_of, pointer}

module _ (T : HandleType) {M : Type 1} {𝓤 : Ura M} {𝓛 : Logic 𝓤} {K : Type 0} {Γ : List (Item 𝓤)} {G : Goal 𝓤 𝓛.H} where
  pub handle_out : K → (d : (row T).Denot) (vs : List Val) (x : T.value.Denot) → held_by T d ≡ Some x
      → ((b o : ℕ) → pointer_of T d ≡ block_ptr b o → vs ≡ pointer b o ∷ []
      → Seq K 𝓛 (‵ (part_at (R (box_of T)) full_share x b o) ∷ ‵ (frees_block (bare (τ (box_of T))) (block_ptr b o)) ∷ Γ) G)
      → Seq K 𝓛 (‵ ((row T).own_val d vs) ∷ Γ) G
  handle_out t d vs x is k =
      fsplit t $ fpick t (λ vss. fsplit t $ feq_l t (λ ev. fsplit t $ feq_l t (λ ep. drop t $
      rewrite t 0 (λ h. ‵ (handle_owns (R (box_of T)) (pointer_of T d) h)) is refl $
      in_a_block t (pointer_of T d) (λ p. box_owns frees_block (R (box_of T)) p x) (fst∗ 𝓤 (never 𝓤) (sem 𝓛 (frees_block (bare (τ (box_of T))) null_ptr))) (λ b o e. fsplit t $ k b o e
      (subst (λ (p : Ptr). vs ≡ vstruct (of_list (ptr_val p ∷ [])) ∷ []) e
      (subst (λ (ps : List Val). vs ≡ vstruct (of_list (ps ++ [])) ∷ []) ep ev))))))

  pub handle_in : K → (at : Ptr) (b o : ℕ) (x : T.value.Denot) → at ≡ block_ptr b o
      → Step K 𝓛 (‵ ((row T).own_val (T.made at (Some x)) (pointer b o ∷ [])) ∷ Γ) G (‵ (part_at (R (box_of T)) full_share x b o) ∷ ‵ (frees_block (bare (τ (box_of T))) (block_ptr b o)) ∷ Γ) G
  handle_in t at b o x e = step (λ s.
      fjoin t $ rewrite t 0 (λ (p : Ptr). ‵ (handle_owns (R (box_of T)) p (Some x))) (sym e) refl $
      nothing t $ feq_i t (List Val) (vptr b o ∷ []) (ptr_val at ∷ []) (ap (λ (p : Ptr). ptr_val p ∷ []) (sym e)) $ fjoin t $
      feq_i t (List Val) (pointer b o ∷ []) (pointer b o ∷ []) refl $ fjoin t $
      fpack t (Valss (RawPtr ∷ [])) (within (shape_of T.struct.name) (at, tt) (pointer b o ∷ [])) (vptr b o ∷ [], tt) $ fjoin t $
      rewrite t 0 (λ (d : Ptr × Option T.value.Denot). ‵ (handle_own T.struct.name (R (box_of T)) d.0 d.1 (pointer b o ∷ []))) (sym (T.is_made at (Some x))) refl $ s)
