-- Document 01, 'the ledger's rates': the answer as numbers.
use Rattle.std.specs.Prelude.{Result, Ok, Err}
use Rattle.std.specs.Float.{binary64}
use Rattle.std.specs.Float.Ieee.{of_bits}
use Rattle.caller.specs.Refusals.{ledger_number}
use Rattle.caller.specs.declared.refusal.LedgerRefusal.{LedgerRefusal}
use Rattle.codec_stats.specs.declared.rates.LedgerRates.{LedgerRates}
use Rattle.codec_stats.specs.declared.report.RatesAnswer.{RatesAnswer}

-- kind 0: filtered, the rate and the rate in millionths; 1: a refusal's number, with which 0 goes
abbrev pub reported_rates : Result LedgerRates LedgerRefusal → RatesAnswer
reported_rates (Ok found) =
    record { kind = 0; number = 0; with = 0; filtered = found.filtered; rate = found.rate; millionths = found.millionths }
reported_rates (Err refusal) =
    record { kind = 1; number = ledger_number refusal; with = 0; filtered = 0; rate = of_bits binary64 0; millionths = 0 }
