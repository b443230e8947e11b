pub mod AllKeys
pub mod Keys
-- THE WORDS FOR CALLERS: each definition that a contract of a public call uses.
pub use Rattle.groklog_options.specs.OptionFaults.{IsOptionFault}
pub use Rattle.groklog_options.specs.Tasks.{fields_of, has_records}
pub use Rattle.groklog_keys.specs.AllKeys.{all_keys, texts_of}
pub use Rattle.groklog_keys.specs.Keys.{added_by_task, has_key, some_has_key, has_taken_key}
