-- What the text tells of a script that is refused.
use Rattle.std.specs.Prelude.{◌≡◌, ℕ, ◌≤◌, List, length, Option, IfSome}
use Rattle.script_text.specs.FaultText.{fault_text}
use Rattle.event_script.specs.Refusal.{IsFirstBad}
use Rattle.script_text.specs.declared.reason.Reason.{Reason}

-- The text tells of a bad line, the first one of the bytes, where they are told, and of the first
-- reason that holds. They are no more than a program takes.
pub record IsRefusal (limit : ℕ) (input : Option (List ℕ)) (text : List ℕ) : Type 0 where
  pub line : ℕ
  pub reason : Reason
  pub first : IfSome input (λ bytes. (length bytes ≤ limit) × IsFirstBad bytes line reason)
  pub text_is : text ≡ fault_text line reason
