-- Why a packet wasn't logged.
use Rattle.log_connections.specs.declared.sink.LogError.{LogError}
use Rattle.log_connections.specs.declared.sink.LogError.TheVariants as log
use Rattle.log_io.specs.declared.output.LineError.{LineError}
use Rattle.log_io.specs.declared.output.LineError.TheVariants.{OutOfMemory}

-- The log's error is the printer's, or want of memory.
abbrev pub line_error_of : LogError LineError → LineError
line_error_of log.OutOfMemory = OutOfMemory
line_error_of (log.Sink e) = e
