use Rattle.edit_session.proofs.Quiet.{quiet_runs_end, quiet_runs_meet_no_fault, quiet_checks_end, quiet_checks_meet_no_fault}
use Rattle.edit_session.proofs.QuietExports.{quiet_exports_end, quiet_exports_meet_no_fault}
use Rattle.edit_session.proofs.faultless.quiet_runs_end.Goals as goal

pub returns-clause-ends : goal.returns-clause-ends
returns-clause-ends c = quiet_runs_end

pub returns-clause-faultless : goal.returns-clause-faultless
returns-clause-faultless c = quiet_runs_meet_no_fault

pub returns-clause-checks_end : goal.returns-clause-checks_end
returns-clause-checks_end c = quiet_checks_end

pub returns-clause-checks_faultless : goal.returns-clause-checks_faultless
returns-clause-checks_faultless c = quiet_checks_meet_no_fault

pub returns-clause-exports_end : goal.returns-clause-exports_end
returns-clause-exports_end c = quiet_exports_end

pub returns-clause-exports_faultless : goal.returns-clause-exports_faultless
returns-clause-exports_faultless c = quiet_exports_meet_no_fault
