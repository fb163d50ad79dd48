use Rattle.std.proofs.Common.{refl, sym}
use Rattle.event_script.proofs.laws.scripts_print_back.Goals as goal

pub returns : goal.returns
returns c = record {
  printed = λ bytes s is. sym is.text;
  read_again = λ bytes s is. record { text = refl; runnable = is.runnable };
}
