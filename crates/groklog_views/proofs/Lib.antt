mod KeyNumbers
