pub mod AgainstOlder
