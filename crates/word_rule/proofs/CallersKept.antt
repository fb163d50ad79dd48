-- What a caller keeps over one part of a call after another.
use Rattle.std.proofs.Common.{refl, rules, ◌∙◌}
use Rattle.word_rule.specs.CallerData.{CallerData, KeepsCaller, KeepsCalls}

pub kept_caller : (k : CallerData) → KeepsCaller k k
kept_caller k = search rules

pub kept_caller_on : {k l m : CallerData} → KeepsCaller k l → KeepsCaller l m → KeepsCaller k m
kept_caller_on p q = record {
  table = q.table ∙ p.table;
  left = q.left ∙ p.left;
  terms = q.terms ∙ p.terms;
  role = q.role ∙ p.role;
  loader = q.loader ∙ p.loader;
  made = q.made ∙ p.made;
  lineage = q.lineage ∙ p.lineage;
}

pub kept_calls : (k : CallerData) → KeepsCalls k k
kept_calls k = record { caller = kept_caller k; past = refl; receipts = refl }

pub kept_calls_on : {k l m : CallerData} → KeepsCalls k l → KeepsCalls l m → KeepsCalls k m
kept_calls_on p q = record {
  caller = kept_caller_on p.caller q.caller;
  past = q.past ∙ p.past;
  receipts = q.receipts ∙ p.receipts;
}
