mod PrefixBytes
