-- `read_job` meets its contract: the buffer has a byte more than a job.
use Rattle.std.proofs.Common.{rules}
use Rattle.file_reader.specs.Reading.{full-refused}
use Rattle.file_reader.proofs.read_job.Goals as goal

pub returns-clause-whole : goal.returns-clause-whole
returns-clause-whole g c = full-refused c.read_file.result c.read_file.new.buffer (search rules)
